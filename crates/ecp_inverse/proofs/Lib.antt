pub mod Totals
mod RowZeros
mod RowLaws
mod Inverses
