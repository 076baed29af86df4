pub mod MergeLemmas
pub mod OwnerLemmas
pub mod MergedLists
pub mod EmitLemmas
pub mod OrderLemmas
pub mod SlotLemmas
pub mod PutLemmas
pub mod BegunLemmas
