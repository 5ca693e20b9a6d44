pub mod RollRest
pub mod Settled
pub mod Spelled
pub mod Room
pub mod Adding
pub mod Resetting
pub mod RollCalls
pub mod Settling
