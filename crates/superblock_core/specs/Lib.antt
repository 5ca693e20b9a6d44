pub mod Superblock
pub mod Text
