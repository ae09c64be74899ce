-- The metadata key of shadow rules, told in two parts, and the name that is told there.
use Rattle.std.proofs.Common.{◌≡◌, ℕ, Bool, true, false, nat_eq, ◌&&◌, List, [], ◌∷◌, ◌++◌, length, take, drop, find, Option, Some, None}
use Rattle.std.proofs.Common.{cond, if◌then◌else◌, ap, sym, refl, ◌∙◌, ◌+◌, Bor}
use Rattle.std.proofs.lemmas.Bool.{cond-false, cond-true, false_from_ne_true}
use Rattle.std.proofs.lemmas.Bool.Decides.{Decides-eqb}
use Rattle.std.proofs.lemmas.Slice.Eq.{bytes_eq-Decides, starts_is}
use lib.Dec.{eqb}
use Rattle.std.specs.Str.Pattern.{FindsTextPrefix}
use Rattle.std.specs.Cmp.Lexicographic.{pointwise}
use Rattle.std.specs.List.{starts_with}
use Rattle.std.specs.Option.{MatchOption, option_copied, option_map, option_or}
use Rattle.std.specs.Str.{bytes_eq}
use Rattle.mesh_policy.specs.Token.{behind}
use Rattle.mesh_policy.specs.Attributes.{Seen}
use Rattle.mesh_policy.specs.declared.case.Case.{Case}
use Rattle.envoy_types.specs.Access.{Rules, effective, name_at, shadow_name}
use Rattle.envoy_types.specs.Run.{Names, RunState, name_of, run_rbac, set_name, shadow_key}
use Rattle.envoy_types.specs.State.{holds_of}
use Rattle.envoy_types.specs.declared.access.Rbac.{Rbac}
use Rattle.envoy_types.specs.declared.access.RbacAction.{RbacAction}
use Rattle.envoy_types.specs.declared.access.RbacAction.TheVariants.{Allow, Deny, Log}
use Rattle.envoy_eval.specs.Hits.{held, hit_at, hits_of_action, hits_of_rbac, hits_of_rules}
use Rattle.envoy_eval.specs.Names.{name_of_hit, policy_of}
use Rattle.envoy_eval.specs.declared.hits.Hit.{Hit}
use Rattle.envoy_eval.specs.declared.hits.StageHits.{StageHits}

two_parts : (prefix word key : List ℕ)
    → bytes_eq (prefix ++ word) key ≡ (pointwise nat_eq prefix (take (length prefix) key) && bytes_eq word (drop (length prefix) key))
two_parts [] word key = refl
two_parts (p ∷ prefix) word [] = refl
two_parts (p ∷ prefix) word (k ∷ key) = at (nat_eq p k) (two_parts prefix word key) where
  at : (b : Bool)
      → bytes_eq (prefix ++ word) key ≡ (pointwise nat_eq prefix (take (length prefix) key) && bytes_eq word (drop (length prefix) key))
      → (b && bytes_eq (prefix ++ word) key)
      ≡ ((b && pointwise nat_eq prefix (take (length prefix) key)) && bytes_eq word (drop (length prefix) key))
  at true h = h
  at false h = refl

behind-by : (b : Bool) (word rest : List ℕ) → holds_of (bytes_eq word) (if b then Some rest else None) ≡ (b && bytes_eq word rest)
behind-by true word rest = refl
behind-by false word rest = refl

pub key-behind : (prefix word key : List ℕ) → holds_of (bytes_eq word) (behind prefix (Some key)) ≡ bytes_eq (prefix ++ word) key
key-behind prefix word key =
    behind-by (pointwise nat_eq prefix (take (length prefix) key)) word (drop (length prefix) key) ∙ sym (two_parts prefix word key)

-- the name at a key behind a filter that sets one
pub name-set : (key own : List ℕ) (told : Option (List ℕ)) (names : Names)
    → name_of key (set_name own told names) ≡ (if bytes_eq own key then option_or told (name_of key names) else name_of key names)
name-set key own None names = at (bytes_eq own key) where
  at : (b : Bool) → name_of key names ≡ (if b then name_of key names else name_of key names)
  at true = refl
  at false = refl
name-set key own (Some name) names = at (bytes_eq own key) where
  at : (b : Bool) → option_map (λ entry. entry.1) (cond b (Some (own, name)) (find (λ entry. bytes_eq entry.0 key) names))
      ≡ (if b then Some name else name_of key names)
  at true = refl
  at false = refl

-- what `strip_prefix` gives
pub behind-is : (prefix key : List ℕ) (rest : Option (Bor (List ℕ)))
    → MatchOption rest (FindsTextPrefix prefix key None)
    (λ x. (n : ℕ) × FindsTextPrefix prefix key (Some n) × (x.now ≡ drop n key) × (length x.now + n ≡ length key))
    → option_copied rest ≡ behind prefix (Some key)
behind-is prefix key None h =
    let begins = starts_is Decides-eqb key prefix (starts_with eqb key prefix) refl in
    sym (cond-false (starts_with eqb key prefix) (Some (drop (length prefix) key)) None
    (false_from_ne_true _ (λ e. h (drop (length prefix) key) (begins.0 e))))
behind-is prefix key (Some x) h =
    let begins : starts_with eqb key prefix ≡ true =
    (starts_is Decides-eqb key prefix (starts_with eqb key prefix) refl).1 (drop h.0 key) h.1.1 in
    ap Some (h.2 ∙ ap (λ n. drop n key) h.1.0)
    ∙ sym (cond-true (starts_with eqb key prefix) (Some (drop (length prefix) key)) None begins)

-- ---- the name by a hit

-- the hit of shadow rules, whatever the rules hit
custom-of : (at : ℕ) (rules : Option Rules) (case : Case) (seen : Seen) (custom : Option Hit)
    → (hits_of_rules at rules case seen custom).custom ≡ custom
custom-of at None case seen custom = refl
custom-of at (Some rules) case seen custom = by rules.action where
  by : (action : RbacAction) → (hits_of_action action at rules (effective rules case seen) custom).custom ≡ custom
  by Allow = refl
  by Deny = refl
  by Log = refl

policy-of : (at : ℕ) (position : Option ℕ) → policy_of (hit_at at position) ≡ position
policy-of at None = refl
policy-of at (Some position) = refl

-- tells the name that they told
pub name-by-hit : (at : ℕ) (rbac : Rbac) (case : Case) (seen : Seen) (hits : StageHits) → hits ≡ hits_of_rbac at case rbac seen
    → name_of_hit rbac.shadow hits.custom ≡ shadow_name rbac.shadow case seen
name-by-hit at rbac case seen hits e =
    ap (λ (h : StageHits). name_of_hit rbac.shadow h.custom) e
    ∙ ap (λ (h : Option Hit). name_of_hit rbac.shadow h) (custom-of at rbac.rules case seen (hit_at at (held rbac.shadow case seen)))
    ∙ by rbac.shadow where
      by : (shadow : Option Rules) → name_of_hit shadow (hit_at at (held shadow case seen)) ≡ shadow_name shadow case seen
      by None = refl
      by (Some rules) = ap (name_at rules) (policy-of at (effective rules case seen))

-- and so the name at a key behind the filter is known
pub name-behind-hit : (key : List ℕ) (at : ℕ) (rbac : Rbac) (case : Case) (seen : Seen) (before : RunState) (hits : StageHits)
    (told : Option (List ℕ)) → hits ≡ hits_of_rbac at case rbac seen → seen ≡ before.seen → told ≡ name_of key before.names
    → (if bytes_eq (shadow_key rbac) key then option_or (name_of_hit rbac.shadow hits.custom) told else told)
    ≡ name_of key (run_rbac rbac case before).state.names
name-behind-hit key at rbac case seen before hits told e s n =
    ap (λ (own : Option (List ℕ)). if bytes_eq (shadow_key rbac) key then option_or own told else told)
    (name-by-hit at rbac case seen hits e ∙ ap (shadow_name rbac.shadow case) s)
    ∙ ap (λ (o : Option (List ℕ)). if bytes_eq (shadow_key rbac) key
    then option_or (shadow_name rbac.shadow case before.seen) o else o) n
    ∙ sym (name-set key (shadow_key rbac) (shadow_name rbac.shadow case before.seen) before.names)

-- equal texts are the same text
pub same-key : (one two : List ℕ) → bytes_eq one two ≡ true → one ≡ two
same-key one two e = (bytes_eq-Decides one two).0 e
