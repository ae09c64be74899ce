-- One value more in a list of trees, the list, and an And and an Or from their parts.
use Rattle.std.proofs.Common.{sym, ap, ◌∙◌, arith}
use Rattle.std.proofs.lemmas.Grind.{common_steps}
use Rattle.serde_json.proofs.Views.{view-Array}
use Rattle.envoy_types.specs.TreeForms.{tree_written}
use Rattle.envoy_types.specs.WrittenFields.{list_written}
use Rattle.leaf_json.proofs.TreeLemmas.{same-sole, told-of, values-more, written-And, written-Or}
use Rattle.leaf_json.proofs.trees.+write.Goals as goal

pub tree_list_value-loop-tree-preserved : goal.tree_list_value-loop-tree-preserved
tree_list_value-loop-tree-preserved g t c =
    values-more (tree_written g.L.Form.form) c.loop-tree.values.items c.push.new.list.items c.in_ok-value.value c.args.trees.now
    c.loop-tree.tree-index c.tree-item.result c.loop-tree.invariant c.in_ok-push.ensures.ok c.in_ok-value.ensures c.loop-tree-test.true
    c.tree-item.is

pub tree_list_value-returns : goal.tree_list_value-returns
unfolding list_written
tree_list_value-returns g t c = grind (arith, common_steps, view-Array c.loop-tree.values, c.loop-tree.invariant)

pub tree_to_value-returns-in_ok-set-in-And : goal.tree_to_value-returns-in_ok-set-in-And
tree_to_value-returns-in_ok-set-in-And g t c =
    told-of c.sole_field-in-And-2.result _ _
    (same-sole _ _ _ _ c.word-in-And.ensures (c.in_ok-set-in-And.ensures
    ∙ same-sole _ _ _ _ c.word.ensures (c.in_ok-values-in-And.ensures
    ∙ ap (list_written (tree_written g.L.Form.form)) c.deref.ensures))
    ∙ sym (written-And g.L.Form.form c.args.tree.now c.in-And.parts (sym c.node.ensures ∙ c.in-And.is)))
    c.sole_field-in-And-2.ensures

pub tree_to_value-returns-in_ok-set-in-Or : goal.tree_to_value-returns-in_ok-set-in-Or
tree_to_value-returns-in_ok-set-in-Or g t c =
    told-of c.sole_field-in-Or-2.result _ _
    (same-sole _ _ _ _ c.word-in-Or-2.ensures (c.in_ok-set-in-Or.ensures
    ∙ same-sole _ _ _ _ c.word-in-Or.ensures (c.in_ok-values-in-Or.ensures
    ∙ ap (list_written (tree_written g.L.Form.form)) c.deref-in-Or.ensures))
    ∙ sym (written-Or g.L.Form.form c.args.tree.now c.in-Or.parts (sym c.node.ensures ∙ c.in-Or.is)))
    c.sole_field-in-Or-2.ensures
