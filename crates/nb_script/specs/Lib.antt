pub mod Faults
pub mod Inputs
pub mod Options
pub mod Reading
pub mod Script
pub mod Streams
