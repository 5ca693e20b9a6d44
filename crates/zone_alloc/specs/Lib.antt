pub mod ZoneTests
pub mod ZoneTableState
pub mod Destinations
pub mod NamedZones
pub mod Descriptors
pub mod Finishing
