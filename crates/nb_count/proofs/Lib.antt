mod Dealt
mod Gathered
mod Keeping
mod Settling
mod Sums
pub mod Theorems
mod Views
