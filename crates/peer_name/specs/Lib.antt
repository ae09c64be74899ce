pub mod Holds
pub mod Names
pub mod Namespace
pub mod Principal
