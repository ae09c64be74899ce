pub mod Conditions
pub mod Laws
pub mod Lists
pub mod Operations
pub mod Policies
pub mod Rules
pub mod Sources
