pub mod BlockBytes
