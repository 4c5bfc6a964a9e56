mod Prelude
pub mod Laws
pub mod TreeLaws
