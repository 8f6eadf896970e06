pub mod Filled
pub mod Names
pub mod Entries
pub mod Items
pub mod ReadBack
pub mod Told
pub mod JournalText
pub mod ReplyText
