pub mod Words
pub mod Decimals
pub mod Hex
pub mod Commands
pub mod Answers
pub mod Faults
pub mod Turns
