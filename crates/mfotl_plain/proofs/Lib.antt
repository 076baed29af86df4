pub mod PlainLemmas
pub mod SettlingLemmas
pub mod PlainRowLemmas
pub mod DomainLemmas
pub mod LineLemmas
