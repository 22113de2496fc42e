pub mod EpochRows
