pub mod Office
pub mod Rules
pub mod Tasks
pub mod Workers
