pub mod Actors
mod DeviceTakesFrames
mod DriverReadsFrames
mod FramesByteForByte
pub mod Reaching
