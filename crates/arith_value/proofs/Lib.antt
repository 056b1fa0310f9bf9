mod EvaluateLemmas
mod OnePassLemmas
mod OwnLemmas
mod VariablesLemmas
pub mod Theorems
