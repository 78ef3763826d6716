pub mod Flags
pub mod Gathering
pub mod Flagging
pub mod Runs
