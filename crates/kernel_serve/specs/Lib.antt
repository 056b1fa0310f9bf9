pub mod Serving
pub mod Stamps
