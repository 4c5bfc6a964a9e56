mod Prelude
pub mod AccountLaws
pub mod ColumnLaws
pub mod DecisionLaws
pub mod EditLaws
pub mod EnterLaws
pub mod FitLaws
pub mod MoveLaws
pub mod OverLaws
pub mod PadLaws
pub mod PlaceLaws
pub mod RowLaws
pub mod ScratchLaws
pub mod TableLaws
pub mod TransferLaws
