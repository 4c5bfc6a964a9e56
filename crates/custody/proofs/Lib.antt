mod Prelude
pub mod CountLaws
pub mod TallyLaws
pub mod LookLaws
pub mod ScanLaws
pub mod ActiveLaws
pub mod NodeLaws
pub mod CutLaws
pub mod BootLaws
pub mod KeptNodes
pub mod PutLaws
pub mod AdvanceLaws
pub mod RowLaws
pub mod FollowLaws
