pub mod Limits
pub mod Items
pub mod Operations
pub mod Format
pub mod Steps
pub mod Promises
pub mod Laws
