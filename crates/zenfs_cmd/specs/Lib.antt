pub mod Words
pub mod Walks
pub mod Names
pub mod Plans
pub mod Reasons
pub mod Printing
pub mod Leaving
pub mod Made
