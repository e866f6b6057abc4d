pub mod BlockRows
pub mod Resends
