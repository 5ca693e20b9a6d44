pub mod Checksum
pub mod ChecksumVectors
pub mod Register
