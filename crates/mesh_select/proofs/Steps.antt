-- Steps of loops that go over a list from its end.
use Rattle.std.proofs.Common.{◌≡◌, ℕ, ◌+◌, ◌-◌, ◌<◌, ◌≤◌, Bool, true, false, cond, List, ◌∷◌, Option, Some, find, option_map, length, get_or, drop, suc, refl, sym, ◌∙◌, ap, arith, add-one, drop-cons}
use Rattle.std.specs.Str.{bytes_eq}
use Rattle.mesh_policy.specs.declared.pod.NamedPort.{NamedPort}

drop_item : {T : Type 0} (xs : List T) (i : ℕ) (x : T) → i < length xs → x ≡ get_or xs i x → drop i xs ≡ x ∷ drop (i + 1) xs
drop_item xs i x h e = rw add-one (drop-cons xs i x h ∙ ap (λ y. y ∷ drop (suc i) xs) (sym e))

pub drop-before : {T : Type 0} (xs : List T) (i : ℕ) (x : T) → 0 < i → i ≤ length xs → x ≡ get_or xs (i - 1) x
    → drop (i - 1) xs ≡ x ∷ drop i xs
drop-before xs i x low high e =
    let below : i - 1 < length xs = omega arith in
    let same : i - 1 + 1 ≡ i = omega arith in
    drop_item xs (i - 1) x below e ∙ ap (λ k. x ∷ drop k xs) same

-- under a name stands the port of the first entry of that name
pub port-before : (name : List ℕ) (e : NamedPort) (es : List NamedPort) (found : Option ℕ)
    → found ≡ option_map (λ entry. entry.port) (find (λ entry. bytes_eq entry.name name) es)
    → cond (bytes_eq e.name name) (Some e.port) found ≡ option_map (λ entry. entry.port) (find (λ entry. bytes_eq entry.name name) (e ∷ es))
port-before name e es found h = at (bytes_eq e.name name) where
  at : (b : Bool) → cond b (Some e.port) found ≡ option_map (λ entry. entry.port) (cond b (Some e) (find (λ entry. bytes_eq entry.name name) es))
  at true = refl
  at false = h

-- one entry earlier, of a name that is written to the map
pub named-before : (name : List ℕ) (ports : List NamedPort) (i : ℕ) (e : NamedPort) (text : List ℕ) (found : Option ℕ)
    → 0 < i → i ≤ length ports → e ≡ get_or ports (i - 1) e → text ≡ e.name
    → found ≡ option_map (λ entry. entry.port) (find (λ entry. bytes_eq entry.name name) (drop i ports))
    → cond (bytes_eq text name) (Some e.port) found
    ≡ option_map (λ entry. entry.port) (find (λ entry. bytes_eq entry.name name) (drop (i - 1) ports))
named-before name ports i e text found low high is same h =
    ap (λ (t : List ℕ). cond (bytes_eq t name) (Some e.port) found) same
    ∙ port-before name e (drop i ports) found h
    ∙ sym (ap (λ (es : List NamedPort). option_map (λ entry. entry.port) (find (λ entry. bytes_eq entry.name name) es))
    (drop-before ports i e low high is))
