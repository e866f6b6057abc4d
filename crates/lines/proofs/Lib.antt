pub mod Lanes
pub mod Places
pub mod Runs
pub mod Ages
pub mod Stores
pub mod Hits
pub mod Packs
pub mod Cuts
