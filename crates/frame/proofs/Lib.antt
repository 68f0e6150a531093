pub mod Points
pub mod Spelling
pub mod Put
pub mod Same
pub mod Ties
