pub mod Ascii
pub mod Tabulate
pub mod Hex
pub mod Bar
