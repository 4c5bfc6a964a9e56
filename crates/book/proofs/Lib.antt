mod Prelude
pub mod AnswerLaws
pub mod Numbers
pub mod ReadingLaws
pub mod SameReplies
pub mod TextLaws
pub mod Words
