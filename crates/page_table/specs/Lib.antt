pub mod PageTable
