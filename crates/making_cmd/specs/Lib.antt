pub mod Made
pub mod NewFs
