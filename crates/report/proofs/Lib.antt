pub mod Found
pub mod Arms
pub mod Totals
