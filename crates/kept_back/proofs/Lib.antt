pub mod Asked
pub mod ItemKinds
pub mod Keys
pub mod Taken
pub mod Workloads
