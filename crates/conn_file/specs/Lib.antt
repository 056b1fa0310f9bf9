pub mod Connection
pub mod Kernelspec
