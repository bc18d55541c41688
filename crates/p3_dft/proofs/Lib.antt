pub mod BitReversed
pub mod Calls
pub mod Laws
mod Lemmas
mod Names
pub mod NetworkG
pub mod PolynomialParts
