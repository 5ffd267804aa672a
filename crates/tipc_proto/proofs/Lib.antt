pub mod Cases
pub mod Numbers
pub mod NameLaws
pub mod FrameLaws
pub mod ControlLaws
pub mod NamePlaces
