-- What a script enters, by syntax alone. In this order: the kinds; one entering, and what enterings make of what is held;
-- how enterings are put together; a tree as the scan reads it; the words of the table; the table; what code that runs
-- enterings leaves; and the laws of runs, of which Laws has the statement.
pub mod Kinds
pub mod Entering
pub mod Scans
pub mod Parts
pub mod Readings
pub mod Headers
pub mod Enterings
pub mod Runs
pub mod Places
pub mod Scanned
pub mod Laws
