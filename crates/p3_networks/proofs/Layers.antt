-- One layer: rows in blocks of two halves, cell by cell, and what it counts.
pub mod Blocks
pub mod Columns
pub mod Counts
pub mod Groups
pub mod Halves
pub mod Joined
pub mod Orders
pub mod Pairs
pub mod Scalings
pub mod Chunks
pub mod Shifts
pub mod Sizes
pub mod Tiles
