pub mod Words
pub mod Texts
pub mod Counted
pub mod Judged
pub mod Endings
