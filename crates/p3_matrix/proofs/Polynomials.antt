-- Polynomials by their coefficients: their values, on cosets too, the only coefficients with given values, and products.
pub mod ByIndex
pub mod Combinations
pub mod Convolutions
pub mod Cosets
pub mod Distance
pub mod Interpolation
pub mod Quotients
pub mod ReversedCoefficients
pub mod SpreadRows
pub mod Sums
