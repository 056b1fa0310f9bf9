mod AsciiLemmas
mod CharsLemmas
mod CompleteLemmas
mod CutLemmas
mod ConstantLemmas
mod LexerLemmas
mod MachineLemmas
mod NamedLemmas
mod NumberLemmas
mod OctetLemmas
mod OnceLemmas
mod ParsingLemmas
mod PackedLemmas
mod PartLemmas
mod ReadingLemmas
mod SentenceLemmas
mod TokensReadLemmas
mod SignLemmas
mod SoundLemmas
mod StackLemmas
mod TakenLemmas
mod TextLemmas
mod TokenLawLemmas
mod TokenLemmas
pub mod Theorems
pub mod TreeLemmas
