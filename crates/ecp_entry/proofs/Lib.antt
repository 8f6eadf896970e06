pub mod EntryLaws
pub mod ItemLaws
pub mod ToldLaws
pub mod TextLaws
pub mod LineLaws
