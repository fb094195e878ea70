pub mod Histories
pub mod Refusals
