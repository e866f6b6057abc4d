pub mod Digits
pub mod Spelling
pub mod Texts
pub mod Room
