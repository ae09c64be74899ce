-- An entry without a provider.
use Rattle.std.proofs.Common.{◌≡◌, ◌++◌, true, List, [], ◌∷◌, Option, None, is_none, sym, append-nil, ◌∙◌}
use Rattle.std.specs.List.{filter_map, list_any}
use Rattle.std.proofs.lemmas.List.Elements.{filter_map-append}
use Rattle.std.proofs.lemmas.List.Folds.{list_any-append}
use Rattle.listener_reader.proofs.Chosen.{or_true}
use Rattle.listener_reader.proofs.requirements.any_of.Goals as goal

no-name : {A : Type 0} (es : List (Option A)) (e : Option A) → e ≡ None
    → filter_map (λ entry. entry) es ≡ filter_map (λ entry. entry) (es ++ e ∷ [])
no-name es e h = sym (filter_map-append (λ entry. entry) es (e ∷ []) ∙ rw h (append-nil _))

one-missing : {A : Type 0} (es : List (Option A)) (e : Option A) → e ≡ None → true ≡ list_any is_none (es ++ e ∷ [])
one-missing es e h = sym (list_any-append is_none es (e ∷ []) ∙ rw h (or_true _))

pub loop-entry-preserved : goal.loop-entry-preserved
loop-entry-preserved c =
    let h : c.in-Some.entry ≡ None = cc in
    record {
      names = c.loop-entry.invariant.names ∙ no-name c.loop-entry.yielded c.in-Some.entry h;
      missing = one-missing c.loop-entry.yielded c.in-Some.entry h;
    }
