-- What the stable sort makes of the policies is the policies in order.
use Rattle.std.proofs.Common.{◌∙◌, ap, rules}
use Rattle.std.proofs.lemmas.Cmp.{nat_list_cmp_total}
use Rattle.std.proofs.lemmas.List.Sorted.{answers_always, ranks_by}
use Rattle.envoy_types.specs.declared.access.RbacPolicy.{RbacPolicy}
use Rattle.mesh_policy.specs.Lists.{in_order}
use Rattle.authz_gen.specs.Policies.{name_before}
use Rattle.authz_gen.proofs.Stable.{sorted-in_order}
use Rattle.authz_gen.proofs.in_order.in_order.Goals as goal

pub returns : goal.returns
returns c =
    let ranks = ranks_by nat_list_cmp_total (λ (p : RbacPolicy). p.name) in
    let sorted = c.in_ok-sort_by.ensures.sorted name_before ranks (answers_always _ _ _ (λ f a r g h. search rules)) in
    let stable = c.in_ok-sort_by.ensures.stable name_before ranks (answers_always _ _ _ (λ f a r g h. search rules)) in
    c.from_vec.ensures ∙ sorted-in_order name_before ranks _ _ sorted stable ∙ ap (in_order name_before) c.into_vec-found.ensures
