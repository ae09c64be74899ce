-- Where the parts of a peer's name stand (SPIFFE, "The SPIFFE Identity and Verifiable Identity Document", section 2; Istio,
-- "Security": workload identity).
use Rattle.std.specs.Prelude.{◌≡◌, ℕ, ◌+◌, ◌-◌, List, codes, drop, length, take}
use Rattle.mesh_policy.specs.PeerNames as name
use Rattle.peer_name.specs.declared.names.PeerName.{PeerName}
use Rattle.peer_name.specs.declared.names.Span.{Span}

-- what a text has from the start of a span up to its end
abbrev pub text_at : List ℕ → Span → List ℕ
text_at s span = take (span.end - span.start) (drop span.start s)

-- the parts that stand at the spans
abbrev pub parts_at : List ℕ → PeerName → name.PeerName
parts_at s spans = record {
  trust = text_at s spans.trust;
  namespace = text_at s spans.namespace;
  account = text_at s spans.account;
}

-- The trust domain stands behind `spiffe://`, the namespace behind `/ns/`, and the account behind `/sa/`, where it ends the name.
pub record StandsIn (s : List ℕ) (spans : PeerName) : Type 0 where
  pub trust : spans.trust.start ≡ length name.scheme
  pub namespace : spans.namespace.start ≡ spans.trust.end + length (codes "/ns/")
  pub account : spans.account.start ≡ spans.namespace.end + length (codes "/sa/")
  pub end : spans.account.end ≡ length s
