pub mod Meaning
pub mod Marks
pub mod ByTicks
pub mod ByMarks
