mod CellLemmas
mod OfferLemmas
mod PartLemmas
mod StatementLemmas
pub mod FileLemmas
