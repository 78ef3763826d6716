pub mod Arms
pub mod Examples
pub mod Rules
