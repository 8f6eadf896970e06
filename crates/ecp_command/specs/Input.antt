-- The input of a run: its head, the lines of its script, and what they ask for.
pub mod Accepted
pub mod Calls
pub mod Costs
pub mod Cuts
pub mod Forms
pub mod Limits
pub mod Lines
pub mod Refusals
pub mod Script
pub mod Sessions
pub mod Settings
pub mod Totals
