-- Rows that change places, that are written over, that are of zeros, and of which a fact holds.
pub mod Numbers
pub mod OppositePlaces
pub mod OppositeRows
pub mod Overwritten
pub mod Padding
pub mod Pairs
pub mod Zeros
