pub mod Fields
pub mod Places
pub mod PaddedTexts
pub mod WholeNumbers
pub mod IdentifierText
pub mod ReadsBack
