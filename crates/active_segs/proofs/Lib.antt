mod Prelude
pub mod AstLemmas
pub mod DescentLemmas
pub mod EntryLemmas
pub mod InferiorLemmas
pub mod LeafLemmas
pub mod NewLemmas
pub mod PairLemmas
pub mod PlaceLemmas
pub mod SplitLemmas
