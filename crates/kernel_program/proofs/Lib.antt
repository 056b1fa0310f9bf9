pub mod CodeLemmas
pub mod EndLemmas
pub mod OrderLemmas
pub mod ToldLemmas
