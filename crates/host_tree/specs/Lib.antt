pub mod HostFiles
pub mod MemTreeState
pub mod RealTreeState
