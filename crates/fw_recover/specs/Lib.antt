pub mod CutProgress
pub mod CutTraces
pub mod Recovered
