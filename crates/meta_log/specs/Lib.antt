pub mod Ends
pub mod Reader
pub mod Faults
