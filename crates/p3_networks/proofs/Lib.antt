pub mod Layers
mod Lemmas
mod Names
pub mod Networks
pub mod Rows
pub mod Tables
