mod ActingCalls
mod CallEvents
mod EnteredCalls
mod IdleCalls
mod MadeCalls
mod OpenWrites
mod Replied
mod RunExamples
mod RunLogs
mod ShownStates
mod Stepped
mod Stretches
mod Told
mod ToldStates
pub mod Theorems
