pub mod Filling
pub mod Least
pub mod Recovery
pub mod DataSteps
