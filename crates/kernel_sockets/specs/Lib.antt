pub mod Outgoing
pub mod Hearing
