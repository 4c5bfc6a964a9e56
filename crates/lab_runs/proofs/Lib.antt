mod Prelude
pub mod CountLaws
pub mod DrawLaws
pub mod EndTexts
pub mod FollowLaws
pub mod RunLaws
pub mod StepLaws
pub mod TraceLaws
pub mod UntilLaws
