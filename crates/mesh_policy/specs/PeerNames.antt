-- The names of peers: SPIFFE IDs (SPIFFE, "The SPIFFE Identity and Verifiable Identity Document", section 2) of the form
-- that Istio gives to workloads, `spiffe://TRUST_DOMAIN/ns/NAMESPACE/sa/ACCOUNT`.
use Rattle.std.specs.Prelude.{true, ◌↔◌, ◌≡◌, ℕ, ◌==◌, nat_eq, nat_le, Bool, ◌&&◌, ◌||◌, not, List, [], ◌∷◌, ◌++◌, length, drop, codes, Option, Some, None, if◌then◌else◌}
use Rattle.std.specs.List.{list_all, starts_with}
use Rattle.std.specs.Str.{bytes_eq}
use Rattle.mesh_text.specs.Bytes.{dot}
use Rattle.mesh_text.specs.Dns.{is_label, is_name_byte, is_subdomain}
use Rattle.mesh_policy.specs.Template.{segments_of}

-- the parts of a well-formed name
pub record PeerName : Type 0 where
  pub trust : List ℕ
  pub namespace : List ℕ
  pub account : List ℕ

-- what each name begins with
abbrev pub scheme : List ℕ
scheme = codes "spiffe://"

-- the name that the parts spell
abbrev pub name_of : PeerName → List ℕ
name_of peer = scheme ++ peer.trust ++ codes "/ns/" ++ peer.namespace ++ codes "/sa/" ++ peer.account

-- _
abbrev pub underscore : ℕ
underscore = 95

-- a to z, 0 to 9, '-', '.' or '_' (SPIFFE ID, section 2.1)
abbrev pub is_trust_byte : ℕ → Bool
is_trust_byte c = is_name_byte c || (c == dot) || (c == underscore)

-- 1 to 255 such bytes, and not the word that stands before the namespace
abbrev pub is_trust_domain : List ℕ → Bool
is_trust_domain s = nat_le 1 (length s) && nat_le (length s) 255 && list_all is_trust_byte s && not (bytes_eq s (codes "ns"))

-- a namespace is a label and a service account a subdomain of DNS, as Kubernetes names them
abbrev pub is_peer : PeerName → Bool
is_peer peer = is_trust_domain peer.trust && is_label peer.namespace && is_subdomain peer.account

-- the five segments behind the scheme
abbrev pub peer_in : List (List ℕ) → Option PeerName
peer_in (trust ∷ (ns ∷ (namespace ∷ (sa ∷ (account ∷ []))))) =
    let peer : PeerName = record { trust = trust; namespace = namespace; account = account } in
    if bytes_eq ns (codes "ns") && bytes_eq sa (codes "sa") && is_peer peer then Some peer else None
peer_in _ = None

-- The parts of a name, where it is well-formed. None of them has a slash, so no name has two readings.
unfoldable pub peer_of : List ℕ → Option PeerName
peer_of name = if starts_with nat_eq name scheme then peer_in (segments_of (drop (length scheme) name)) else None

-- a name and its parts
pub record IsNameOf (peer : PeerName) (name : List ℕ) : Type 0 where
  pub spelled : name ≡ name_of peer
  pub sound : is_peer peer ≡ true

-- The parts of a name are those that spell it and have the form of parts, where there are any. So there are no others.
abbrev pub PeerNamesAreRead : Type 0
PeerNamesAreRead = (name : List ℕ) (peer : PeerName) → (peer_of name ≡ Some peer) ↔ IsNameOf peer name
