mod Evidence
pub mod Refusals
