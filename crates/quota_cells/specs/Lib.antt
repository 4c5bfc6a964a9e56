pub mod Accounts
pub mod Cells
pub mod Columns
pub mod Laws
pub mod Moves
pub mod Scratch
pub mod Tables
