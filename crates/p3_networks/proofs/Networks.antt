-- The networks: what the rows hold after each layer, as formulas, and what takes them from one layer to the next.
pub mod Cells
pub mod CosetHalves
pub mod Formulas
pub mod HighRows
pub mod LowHalves
pub mod LowLayers
pub mod LowRows
pub mod Chunks
pub mod SlotPlaces
pub mod Slots
pub mod Scaled
pub mod Stages
pub mod TwistedRows
