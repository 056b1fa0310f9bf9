pub mod FedLemmas
pub mod PipeLemmas
