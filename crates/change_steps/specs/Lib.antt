pub mod Resetting
pub mod Recording
pub mod Endings
pub mod NameChanges
pub mod WriteMount
pub mod Checking
pub mod Behind
