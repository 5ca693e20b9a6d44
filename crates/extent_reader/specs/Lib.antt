pub mod ZoneParts
