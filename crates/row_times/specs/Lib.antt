pub mod Times
pub mod HeldTimes
pub mod RowKeys
pub mod HashedTimes
pub mod Groups
pub mod KeptTimes
pub mod PackedRows
