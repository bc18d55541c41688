-- The trait's calls over stored matrices: shapes, transforms, inverses and extensions as its bodies make them, and call after call.
pub mod ColumnCosets
pub mod Columns
pub mod Coordinates
pub mod CountedCalls
pub mod Counts
pub mod EngineSteps
pub mod ExtendedTransforms
pub mod Inverses
pub mod JobLists
pub mod JobRuns
pub mod PreparedCosets
pub mod PreparedHeights
pub mod PublishedExtensions
pub mod Shapes
pub mod Stored
pub mod Transforms
