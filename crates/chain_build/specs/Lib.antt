pub mod Buildable
pub mod Chains
pub mod Filters
pub mod Listener
