pub mod Ranges
pub mod Padding
pub mod ShortLists
pub mod Decimals
pub mod Digits
pub mod ErrorCodes
pub mod Points
pub mod Refusals
