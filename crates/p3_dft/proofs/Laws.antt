-- What users cite: laws of two calls, the one answer of a job, transforms by parts, values of combinations, coordinates
-- that stand alone, `==` of matrices, why published blocks stopped, and codewords.
pub mod Blocks
pub mod Codes
pub mod Convolutions
pub mod Coordinates
pub mod Equality
pub mod OneAnswer
pub mod Parts
pub mod Points
pub mod TwoCalls
