pub mod Search
mod Clears
