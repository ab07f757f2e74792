-- What the contracts say: the masks, the roles, the words and the faults.
pub mod Flags
pub mod Usage
pub mod Words
pub mod Faults
