-- Lemmas on texts in hexadecimal.
pub mod Spelled
