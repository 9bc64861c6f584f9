pub mod ColumnNames
