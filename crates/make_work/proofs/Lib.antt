mod Prelude
pub mod Drawing
pub mod Texts
pub mod Plans
