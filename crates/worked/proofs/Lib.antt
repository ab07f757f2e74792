-- The worked files, computed.
pub mod Cases
pub mod Deep
