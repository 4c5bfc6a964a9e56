pub mod Octal
pub mod Words
