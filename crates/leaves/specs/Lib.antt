pub mod Refusal
pub mod Report
pub mod Sheet
pub mod Text
