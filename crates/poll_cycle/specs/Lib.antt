pub mod CycleRows
