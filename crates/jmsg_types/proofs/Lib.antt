pub mod MemberLemmas
pub mod TextLemmas
pub mod ContentLemmas
pub mod FloatLemmas
pub mod TypeLemmas
