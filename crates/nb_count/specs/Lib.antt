pub mod Counts
pub mod Inside
pub mod Tallies
