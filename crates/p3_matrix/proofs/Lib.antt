pub mod BitReversal
pub mod BlockRuns
pub mod ButterflyLaws
pub mod Carries
pub mod Consumers
pub mod HalfReversed
pub mod Lanes
mod Lemmas
pub mod Matrices
mod Names
pub mod Polynomials
pub mod Recordings
pub mod ReversedRows
pub mod Rooms
pub mod RowExchanges
pub mod RowMajor
pub mod Rows
pub mod RowsByPacks
pub mod Tiles
pub mod TwoPowers
