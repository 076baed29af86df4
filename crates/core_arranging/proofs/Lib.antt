pub mod ArrangedLemmas
pub mod NarrowedLemmas
pub mod PosedLemmas
