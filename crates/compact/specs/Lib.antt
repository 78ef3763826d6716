pub mod Admitted
pub mod Log
