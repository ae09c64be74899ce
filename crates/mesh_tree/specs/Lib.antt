pub mod Full
pub mod Joined
pub mod Judge
pub mod Size
pub mod Tree
