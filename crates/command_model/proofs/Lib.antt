pub mod ByteOrder
pub mod SortLaws
pub mod HintLaws
pub mod RestoreLaws
pub mod PrefixLaws
pub mod BackupLaws
