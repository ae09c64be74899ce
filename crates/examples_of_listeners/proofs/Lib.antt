pub mod TreeSizes
