pub mod SessionOnce
pub mod SinkLemmas
pub mod TellLemmas
pub mod WorkLemmas
