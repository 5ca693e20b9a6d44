pub mod Commands
pub mod Numbers
pub mod Settings
pub mod Shapes
pub mod Splits
