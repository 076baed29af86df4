pub mod HandLemmas
pub mod DealLemmas
pub mod ServeLemmas
