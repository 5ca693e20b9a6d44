pub mod Name
pub mod Numbers
pub mod Encoding
pub mod FieldDecoding
pub mod Decoding
pub mod Grammar
pub mod CodecVectors
pub mod FaultExamples
