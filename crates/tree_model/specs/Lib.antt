pub mod Access
pub mod Quotas
pub mod Tree
pub mod Trees
