pub mod Answers
pub mod Entries
pub mod Reasons
pub mod Rows
pub mod Seeking
pub mod Texts
