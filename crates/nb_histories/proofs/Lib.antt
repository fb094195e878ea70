mod Accepted
mod Legality
mod Passing
mod Refused
mod Replies
mod Worked
