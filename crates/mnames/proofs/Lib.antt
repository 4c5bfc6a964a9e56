mod Prelude
mod NameBytes
mod NamesText
mod PathGrammar
pub mod PrincipalTexts
mod ShortTexts
