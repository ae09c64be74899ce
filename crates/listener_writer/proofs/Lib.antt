pub mod Entries
pub mod NamedOnto
