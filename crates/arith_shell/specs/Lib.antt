pub mod ShellArithmetic
pub mod ShellLaws
pub mod WordLaws
pub mod Words
