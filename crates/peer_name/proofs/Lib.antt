pub mod NameSegments
pub mod NamespaceHolds
pub mod PrincipalHolds
pub mod ReadLemmas
pub mod SeenPeer
pub mod Segments
pub mod SuffixLemmas
pub mod SuffixParts
