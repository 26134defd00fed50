-- Lemmas that laws of devices cite.
pub mod Tracking
pub mod PhaseLaws
pub mod FloorLaws
pub mod TrackLaws
pub mod DeviceLaws
pub mod OneLaw
pub mod PointerLaws
pub mod ByteLaws
