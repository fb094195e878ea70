mod Adding
mod Copied
mod SlotsFinished
mod SlotsInNext
mod Counted
mod Helped
