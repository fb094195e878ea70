pub mod Named
pub mod Outcomes
pub mod Output
pub mod Runs
pub mod Serving
pub mod Text
pub mod Told
pub mod Working
