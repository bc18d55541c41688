-- Tables of twiddles.
pub mod BlockTables
pub mod CosetTables
pub mod CosetsApart
pub mod FromStart
pub mod InversePowers
pub mod MoreTwiddles
pub mod ReversedPowers
pub mod RootPowers
