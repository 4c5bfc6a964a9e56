pub mod Index
pub mod Kept
pub mod Laws
pub mod Lending
pub mod Nodes
pub mod Shape
pub mod Uids
