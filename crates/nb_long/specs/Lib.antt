pub mod Stores
pub mod Typed
pub mod Promises
pub mod Handles
pub mod Numbers
pub mod Updating
pub mod Renewing
pub mod NewStore
