mod LastEntries
mod FoundEntries
mod Listings
