pub mod Reading
pub mod Adding
pub mod Scanning
pub mod Windows
pub mod Held
