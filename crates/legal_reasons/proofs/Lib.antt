mod Prelude
mod ReasonLaws
