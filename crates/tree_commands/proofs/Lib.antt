mod Prelude
mod MoveReplies
mod NodeLaws
mod PathLaws
