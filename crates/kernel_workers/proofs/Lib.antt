pub mod RelayingLemmas
mod EndingLemmas
pub mod RunningLemmas
pub mod JobLemmas
mod ShutdownLemmas
mod StartingLemmas
mod WorksLemmas
