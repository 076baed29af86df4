pub mod OwnedLemmas
pub mod Chains
pub mod Leading
pub mod SliceLemmas
pub mod MergeLemmas
pub mod PieceLemmas
