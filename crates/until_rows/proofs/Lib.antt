pub mod EntriesLemmas
pub mod LevelLemmas
pub mod RowsLemmas
pub mod StartLemmas
pub mod SetLemmas
pub mod ByKeyLemmas
pub mod OrderLemmas
