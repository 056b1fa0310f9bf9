pub mod OutgoingLemmas
