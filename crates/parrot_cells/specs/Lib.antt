pub mod Parrot
