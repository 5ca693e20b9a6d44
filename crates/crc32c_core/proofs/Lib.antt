pub mod Shifts
pub mod Lookups
pub mod Rows
pub mod Pieces
pub mod Rotations
