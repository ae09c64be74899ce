pub mod Characters
pub mod Counts
pub mod EachOnce
pub mod Mapped
pub mod NoFault
pub mod Order
pub mod Unique
