mod Prelude
pub mod LineLaws
pub mod TrailLaws
pub mod CountLaws
pub mod UseLaws
