mod Prelude
pub mod AddedLemmas
pub mod ChangedLemmas
pub mod CountLemmas
pub mod EditLemmas
pub mod ShelfLemmas
pub mod SlotLemmas
pub mod IndexLemmas
pub mod KeptLemmas
pub mod NewestLemmas
pub mod QuotaLemmas
pub mod RemovedLemmas
pub mod UidLemmas
