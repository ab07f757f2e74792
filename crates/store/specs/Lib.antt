-- What the contracts say. In this order: private names; what is held, and the texts in it; what one entering of a name
-- does; tables, and what is entered in several of them; what memory is. Then the words of the laws, and last the laws.
pub mod Mangling
pub mod Held
pub mod Texts
pub mod Enterings
pub mod Tables
pub mod Outward
pub mod Memory
pub mod Sound
pub mod Grown
pub mod Names
pub mod Throughout
pub mod Opened
pub mod Nesting
pub mod Rooms
pub mod Laws
