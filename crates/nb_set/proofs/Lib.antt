mod Added
mod Bounded
mod Dealt
mod Handles
mod Items
mod Listed
mod Logged
mod Opened
mod Promised
mod Read
mod Renewed
mod Sampled
mod Settled
mod Swept
mod Walked
pub mod Theorems
