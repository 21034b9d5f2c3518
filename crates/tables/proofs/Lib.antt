-- Laws of the table in work.
pub mod Smaller
pub mod Scatter
pub mod IdLaws
pub mod MarkLaws
pub mod WidenLaws
pub mod UnionLaws
