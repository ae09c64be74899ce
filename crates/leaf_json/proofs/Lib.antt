pub mod BlockLemmas
pub mod ReadLemmas
pub mod StringLemmas
pub mod TreeLemmas
