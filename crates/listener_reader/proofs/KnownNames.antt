-- A provider of a name is found exactly where the name is one of theirs.
use Rattle.std.proofs.Common.{◌≡◌, ℕ, Bool, true, false, ◌||◌, cond, List, [], ◌∷◌, Option, Some, None, Bor, is_some, bytes_eq}
use Rattle.std.proofs.Common.{refl, sym, ap, ap₂, ◌∙◌}
use Rattle.std.proofs.lemmas.Bool.Decides.{Decides-like, same_from_decides}
use Rattle.std.proofs.lemmas.Slice.Eq.{bytes_eq-Decides}
use Rattle.std.specs.Option.{option_copied}
use Rattle.envoy_types.specs.Jwt.{Provider, provider_named}
use Rattle.envoy_types.specs.JwtForms.{is_provider, provider_names}

flips : (a b : List ℕ) → bytes_eq a b ≡ bytes_eq b a
flips a b =
    same_from_decides (bytes_eq a b) (bytes_eq b a) (bytes_eq-Decides a b)
    (Decides-like (bytes_eq b a) (λ e. sym e) (λ e. sym e) (bytes_eq-Decides b a))

is-some-first : {A : Type 0} (b : Bool) (x : A) (o : Option A) → is_some (cond b (Some x) o) ≡ (b || is_some o)
is-some-first true x o = refl
is-some-first false x o = refl

found-by-name : (providers : List Provider) (name : List ℕ)
    → is_some (provider_named providers name) ≡ is_provider (provider_names providers) name
found-by-name [] name = refl
found-by-name (p ∷ providers) name =
    is-some-first (bytes_eq p.name name) p (provider_named providers name)
    ∙ ap₂ (λ (a b : Bool). a || b) (flips p.name name) (found-by-name providers name)

copied : {A : Type 0} (found : Option (Bor A)) → is_some found ≡ is_some (option_copied found)
copied None = refl
copied (Some x) = refl

pub known : (found : Option (Bor Provider)) (providers : List Provider) (name : List ℕ)
    → option_copied found ≡ provider_named providers name → is_some found ≡ is_provider (provider_names providers) name
known found providers name e = copied found ∙ ap is_some e ∙ found-by-name providers name
