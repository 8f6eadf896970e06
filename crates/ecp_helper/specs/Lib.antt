pub mod Forwards
pub mod Gates
pub mod HelperParts
pub mod Helpers
pub mod Lending
pub mod Senders
pub mod Steps
pub mod Turns
