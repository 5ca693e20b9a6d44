mod Buffers
mod Changes
mod DeviceAppends
mod DeviceCalls
mod Leaves
mod Memories
mod MemCalls
mod Records
mod ZoneLists
mod WindowReads
pub mod MomentsWithin
pub mod DeviceLaws
