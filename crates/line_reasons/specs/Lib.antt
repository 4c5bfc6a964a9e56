pub mod Grammar
pub mod Reasons
pub mod Fronts
pub mod SumTexts
pub mod DueLines
