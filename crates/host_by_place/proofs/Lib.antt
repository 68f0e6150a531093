pub mod Listed
pub mod Moved
pub mod Seats
pub mod Standing
