-- The lemmas of this crate.
pub mod Turns
pub mod Compose
pub mod Keeping
pub mod Blocks
pub mod Calls
pub mod Invariants
pub mod Outwards
pub mod Elsewhere
pub mod Children
