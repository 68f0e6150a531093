pub mod Text
pub mod Promises
