pub mod Mapped
pub mod Numbered
pub mod Padded
pub mod Replaced
pub mod Tested
