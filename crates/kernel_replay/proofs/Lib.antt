pub mod HexText
pub mod KnownReads
pub mod ReplayLemmas
pub mod TextOnce
