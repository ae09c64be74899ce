-- The key set of an issuer, as a rule gives it: `jwks` or `jwksUri` (Istio reference, JWTRule; RFC 7517, section 5).
use Rattle.std.specs.Prelude.{ℕ, List, [], ◌∷◌, Option, Some, None}
use Rattle.mesh_policy.specs.declared.jwt.Keys.{Keys}
use Rattle.mesh_policy.specs.declared.jwt.Keys.TheVariants as keys

-- an empty text is none
abbrev pub unless_empty : Option (List ℕ) → Option (List ℕ)
unless_empty None = None
unless_empty (Some []) = None
unless_empty (Some (c ∷ t)) = Some (c ∷ t)

-- exactly one of `jwksUri` and `jwks` is there
abbrev pub keys_of : Option (List ℕ) → Option (List ℕ) → Option Keys
keys_of None None = None
keys_of (Some uri) None = Some (keys.Uri uri)
keys_of None (Some set) = Some (keys.Inline set)
keys_of (Some uri) (Some set) = None
