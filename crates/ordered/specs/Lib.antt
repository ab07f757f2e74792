-- What the contracts say: first the keys, then the list of records.
pub mod Keys
pub mod Records
