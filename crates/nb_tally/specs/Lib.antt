-- The definitions that the contracts cite.
pub mod Counted
pub mod Fields
pub mod Forgotten
pub mod Limits
pub mod Numbers
pub mod Printed
pub mod Sorting
