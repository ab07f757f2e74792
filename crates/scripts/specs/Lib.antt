-- Whole scripts, spelled out, and what the scan leaves of each.
pub mod Listing
pub mod Syntax
pub mod Scripts
