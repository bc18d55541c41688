-- Rows of flat lists: blocks of them that are lent, and chunks.
pub mod Lent
pub mod EachChunk
