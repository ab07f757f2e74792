-- Whole tree files, spelled out, and what the check answers to each.
pub mod Layout
pub mod Worked
