pub mod Computed
pub mod Exclusive
pub mod Linear
pub mod FieldLaws
pub mod ListLaws
