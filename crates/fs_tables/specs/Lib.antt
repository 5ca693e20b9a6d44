pub mod MountedTables
pub mod Needs
pub mod Released
pub mod Steps
pub mod Dead
pub mod Tokens
