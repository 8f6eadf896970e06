-- Lemmas on the plain table.
pub mod BytesLaws
pub mod KeptLaws
pub mod MaskLaws
pub mod OrderLaws
pub mod RowLaws
pub mod StoreLaws
