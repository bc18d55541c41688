pub mod Chunks
pub mod CosetTables
pub mod Counts
pub mod Groups
pub mod Halves
pub mod Layers
pub mod Slots
pub mod Twiddles
