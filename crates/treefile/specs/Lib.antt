-- What a tree file means. Read in this order: the format and its tests up to Checked; the theorems above them, Preorder to
-- Laws, of which Laws has the main statement; what a node shows; and Passing, for a recursion over a checked tree.
pub mod Words
pub mod Faults
pub mod First
pub mod Trailer
pub mod Names
pub mod Kinds
pub mod Records
pub mod Slots
pub mod Fits
pub mod Checked
pub mod Preorder
pub mod Trees
pub mod Spelling
pub mod Laws
pub mod KindWords
pub mod Shown
pub mod Passing
