pub mod Check
pub mod Tables
