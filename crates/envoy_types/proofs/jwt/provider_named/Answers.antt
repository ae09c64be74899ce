-- The search answers by the names, in byte order.
use Rattle.std.proofs.Common.{rules, Some, nat_cmp, sym, ap, ◌∙◌}
use Rattle.std.proofs.lemmas.Fn.{always_returns_same}
use Rattle.std.specs.Cmp.Lexicographic.{slice_cmp}
use Rattle.envoy_types.proofs.Searched.{absent, found}
use Rattle.envoy_types.proofs.jwt.provider_named.Goals as goal

pub returns-in-Ok : goal.returns-in-Ok
returns-in-Ok c =
    let name = c.args.name.now in
    let provider = c.index-providers-at.result in
    let equal = c.in-Ok.ensures.position (λ p. slice_cmp nat_cmp p.name name) (always_returns_same _ _ _ (λ a r f k. search rules)) in
    ap Some c.index-providers-at.is
    ∙ sym (found (λ p. p.name) name c.args.providers.now c.requires c.in-Ok.at provider c.in-Ok.ensures.bound (equal provider))

pub returns-in-Err : goal.returns-in-Err
returns-in-Err c =
    let name = c.args.name.now in
    let parted = c.in-Err.ensures.position (λ p. slice_cmp nat_cmp p.name name) (always_returns_same _ _ _ (λ a r f k. search rules)) in
    sym (absent (λ p. p.name) name c.args.providers.now c.requires c.in-Err.field-0 parted)
