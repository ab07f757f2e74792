-- What the lines hold: first the names, then the lines.
pub mod Escaped
pub mod Lines
