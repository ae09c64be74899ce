-- The parts of a list of values with a last one.
use Rattle.std.proofs.Common.{◌≡◌, ◌-◌, ◌+◌, ◌==◌, ◌&&◌, true, List, [], ◌∷◌, ◌++◌, length, refl, ap, arith}
use Rattle.serde_json.specs.Data.{Items, no_items, item}
use Rattle.serde_json.specs.Events.{items_len}
use Rattle.serde_json.specs.View.{items_view, view}
use Rattle.serde_json.specs.declared.value.Value.{Value}
use Rattle.mesh_doc.proofs.Counts.{count_of_items}
use Rattle.envoy_types.proofs.PartsBack.{not-zero}
use Rattle.envoy_types.specs.FilterForms.{is_manager}
use Rattle.envoy_types.specs.SmallForms.{first_of, front_of, is_named, last_of}
use Rattle.envoy_types.specs.declared.names.TheConstants.{HTTP_MANAGER_NAME}

pub front_view : (vs : List Value) (v : Value) → front_of (items_view (vs ++ v ∷ [])) ≡ items_view vs
front_view [] v = refl
front_view (u ∷ []) v = refl
front_view (u ∷ (w ∷ vs)) v = ap (item (view u)) (front_view (w ∷ vs) v)

pub last_view : (vs : List Value) (v : Value) → last_of (items_view (vs ++ v ∷ [])) ≡ view v
last_view [] v = refl
last_view (u ∷ []) v = refl
last_view (u ∷ (w ∷ vs)) v = last_view (w ∷ vs) v

length-ending : (vs : List Value) (v : Value) → length (vs ++ v ∷ []) ≡ length vs + 1
length-ending [] v = refl
length-ending (u ∷ vs) v = omega (arith, length-ending vs v)

pub index_view : (vs : List Value) (v : Value) → items_len (items_view (vs ++ v ∷ [])) - 1 ≡ length vs
index_view vs v = omega (arith, count_of_items (vs ++ v ∷ []), length-ending vs v)

pub sole_last : (ds : Items) → is_manager ds ≡ true → first_of ds ≡ last_of ds
sole_last no_items h = cc
sole_last (item d no_items) h = refl
sole_last (item d (item e ds)) h = cc

pub sole_manager : (v : Value) (vs : List Value)
    → is_manager (items_view (v ∷ vs)) ≡ ((length vs == 0) && is_named HTTP_MANAGER_NAME.now (view v))
sole_manager v [] = refl
sole_manager v (u ∷ vs) = rw (not-zero (length vs)) refl

pub ruleset endings = (front_view, last_view, index_view, sole_last, count_of_items)
