pub mod Inputs
mod Pieces
mod Asked
mod Stopping
mod Sending
mod JournalLines
mod AnswerLaws
mod AnswerLines
mod ReplyLines
mod Sessions
mod ServedLaws
mod PhaseLaws
mod RaiseLaws
mod SeatLaws
pub mod served
mod FirstPasses
pub mod ServedRuns
mod RunLaws
pub mod TextLines
pub mod OneJournal
