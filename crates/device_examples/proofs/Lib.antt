pub mod ActiveZones
