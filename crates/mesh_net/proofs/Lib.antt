pub mod AddressLemmas
pub mod BlockLemmas
pub mod SlashLemmas
pub mod WrittenLemmas
