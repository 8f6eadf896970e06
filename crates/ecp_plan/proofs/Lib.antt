pub mod ChosenRows
pub mod CountLaws
pub mod NextLaws
pub mod OrderLaws
pub mod SumLaws
pub mod UpNodes
