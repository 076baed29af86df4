pub mod PartLemmas
pub mod SpreadLemmas
mod OwnedLemmas
