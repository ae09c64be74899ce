-- The keys of an object, in the order in which its members stand.
use Rattle.std.specs.Prelude.{ℕ, Bool, List, []}
use Rattle.serde_json.specs.Data.{Data, Members}
use Rattle.mesh_doc.specs.Maps.{each_member_in, map_in, unique_besides}
use Rattle.envoy_types.specs.Order.{names_rise}

-- each is below the later ones in byte order, so that they are distinct
abbrev pub are_rising : List (List ℕ) → Bool
are_rising keys = names_rise (λ key. key) keys

-- of an object
unfoldable pub keys_in : Data → List (List ℕ)
keys_in d = map_in (λ key _. key) d

-- of its members, each key once
unfoldable pub keys_of_members : Members → List (List ℕ)
keys_of_members ms = each_member_in (λ key _. key) (unique_besides [] ms)
