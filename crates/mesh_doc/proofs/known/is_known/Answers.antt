use Rattle.std.proofs.Common.{ℕ, List, Bool, Bor, bytes_eq, rules, sym, ◌∙◌}
use Rattle.std.proofs.lemmas.Iterator.{YieldsList-from_slice}
use Rattle.std.proofs.lemmas.Iterator.Search.{any_from_yields_List}
use Rattle.mesh_doc.proofs.Mapped.{list_any-map}
use Rattle.mesh_doc.specs.Known.{is_known}
use Rattle.mesh_doc.proofs.known.is_known.Goals as goal

pub returns : goal.returns
unfolding is_known
returns c =
    let words = YieldsList-from_slice c.args.known.now c.iter.ensures.rest in
    let passes : Bor (List ℕ) → Bool = λ word. bytes_eq word.now c.args.name.now in
    let one = any_from_yields_List passes _ _ c.any.result c.any.ensures.ran words (search rules) in
    one ∙ sym (list_any-map (λ (word : List ℕ). bytes_eq word c.args.name.now) _ c.args.known.now)
