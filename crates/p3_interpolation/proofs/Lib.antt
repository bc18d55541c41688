pub mod BarycentricFormula
pub mod Laws
pub mod VanishingValues
