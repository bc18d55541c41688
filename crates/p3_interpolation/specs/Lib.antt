pub mod GeneratorCosets
pub mod Interpolations
