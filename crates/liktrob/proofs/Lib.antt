pub mod ColumnShifts
pub mod Named
pub mod Shapes
