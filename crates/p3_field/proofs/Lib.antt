pub mod Accumulated
mod BatchInverse
pub mod Bezout
mod GoldilocksLanes
pub mod LaneArithmetic
pub mod LaneLoops
mod Lemmas
pub mod Lists
mod Names
pub mod Parity
pub mod PowerLists
pub mod Powers
pub mod ResidueLanes
pub mod Residues
pub mod RingSolver
pub mod Rings
pub mod Roots
mod WordLanes
