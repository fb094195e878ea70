mod Called
mod CarriedOver
mod Comparing
mod Held
mod Passed
mod Rounds
mod Tries
mod Written
