pub mod Totals
pub mod Course
