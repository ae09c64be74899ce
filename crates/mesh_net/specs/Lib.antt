pub mod Address
pub mod Block
pub mod Cidr
pub mod Written
pub use Rattle.mesh_text.specs.Number
