pub mod Modes
pub mod Places
pub mod Orders
pub mod Meaning
pub mod ByCall
