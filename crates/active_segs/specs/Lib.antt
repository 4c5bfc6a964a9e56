pub mod Active
pub mod Kept
pub mod Lending
pub mod Pairs
pub mod Pool
pub mod Victim
