pub mod Listings
pub mod Gathered
