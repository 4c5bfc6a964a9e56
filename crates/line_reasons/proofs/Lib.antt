mod Prelude
mod CutLaws
mod DueLaws
mod FrontLaws
mod ReasonLaws
