mod Prelude
pub mod ChainLaws
pub mod Finds
pub mod SharedLaws
pub mod TreeLaws
