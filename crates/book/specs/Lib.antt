pub mod Books
pub mod Entries
pub mod Reading
pub mod Replies
