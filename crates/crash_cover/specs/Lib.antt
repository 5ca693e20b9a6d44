pub mod SameData
pub mod Pinned
pub mod AtRest
pub mod RestSteps
pub mod FoundExtents
pub mod Recovery
