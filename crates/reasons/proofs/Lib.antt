mod Prelude
pub mod LineLaws
pub mod SinceLaws
pub mod PassLaws
pub mod AskLaws
pub mod TellLaws
