pub mod Outcome
pub mod Place
pub mod Length
pub mod BoundedVarint
pub mod Draft
pub mod DraftedField
pub mod NameSets
