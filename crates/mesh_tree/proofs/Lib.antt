pub mod FoldLemmas
pub mod FullLemmas
pub mod JoinedLemmas
pub mod JudgeLemmas
