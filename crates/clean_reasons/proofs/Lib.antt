mod Prelude
pub mod EffectLaws
pub mod SeekLaws
pub mod FrameLaws
pub mod RefusalLaws
pub mod RowLaws
