pub mod SameData
pub mod PinnedTables
pub mod RestLaws
pub mod StepLaws
pub mod FoundLaws
pub mod RecoveryLaws
pub mod RecordRecovery
