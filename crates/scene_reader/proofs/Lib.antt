mod Alike
mod Stable
mod Expanding
mod Limits
mod Following
mod PartSteps
mod ScriptSteps
mod RepeatSteps
mod LineSteps
mod Closing
pub mod Telling
mod Stepping
