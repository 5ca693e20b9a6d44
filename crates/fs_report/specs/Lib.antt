pub mod ExitCode
pub mod MemSinkState
pub mod Written
pub mod Lines
pub mod Causes
pub mod DumpValues
pub mod DumpState
