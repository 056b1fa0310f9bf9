pub mod Exit
pub mod Printed
