pub mod Logs
pub mod Names
pub mod Rules
pub mod Till
