-- Each count stands behind the text that was there.
use Rattle.std.proofs.Common.{◌≡◌, ℕ, List, ◌++◌, codes, ap, ◌∙◌}
use Rattle.mesh_cli.specs.Counts.{count_text, counts_text}
use Rattle.mesh_cli.proofs.counts.counts_text.Goals as goal

then_count : (text front front' name : List ℕ) (n n' : ℕ) → text ≡ front ++ count_text name n → front ≡ front' → n ≡ n'
    → text ≡ front' ++ count_text name n'
then_count text front front' name n n' written before same =
    written ∙ ap (λ t. t ++ count_text name n) before ∙ ap (λ m. front' ++ count_text name m) same

pub returns : goal.returns
unfolding counts_text
returns c =
    then_count _ _ _ (codes "other") _ _ c.in_ok-push_count-7.ensures
    (then_count _ _ _ (codes "mesh") _ _ c.in_ok-push_count-6.ensures
    (then_count _ _ _ (codes "request") _ _ c.in_ok-push_count-5.ensures
    (then_count _ _ _ (codes "peer") _ _ c.in_ok-push_count-4.ensures
    (then_count _ _ _ (codes "authorization") _ _ c.in_ok-push_count-3.ensures
    (then_count _ _ _ (codes "services") _ _ c.in_ok-push_count-2.ensures
    (then_count _ _ _ (codes "pods") _ _ c.in_ok-push_count.ensures
    c.in_ok-text.ensures.ok
    c.len.ensures) c.len-2.ensures) c.len-3.ensures) c.len-4.ensures) c.len-5.ensures) cc) cc
