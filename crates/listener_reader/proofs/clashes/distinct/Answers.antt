-- A chain is looked up among the kinds of the earlier ones, and then its own are kept.
use Rattle.std.proofs.Common.{◌≡◌, true, false, take, refl, sym, ap, ◌∙◌}
use Rattle.mesh_doc.specs.Faults.{fault, first}
use Rattle.mesh_doc.specs.declared.reason.Reason.TheVariants.{DuplicateMatch}
use Rattle.envoy_types.specs.ChainForms.{clashes_with_one}
use Rattle.listener_reader.proofs.Duplicates.{clashing, nothing, passing, same-refusal}
use Rattle.listener_reader.proofs.KindSets.{one-chain-more, taken}
use Rattle.listener_reader.proofs.clashes.distinct.Goals as goal

pub loop-i-init : goal.loop-i-init
loop-i-init c = record { faults = refl; kinds = nothing c.new-kinds.result c.new-kinds.ensures.empty }

pub returns-then-is_taken : goal.returns-then-is_taken
returns-then-is_taken c =
    let chain = c.index-chains-i.result in
    let clash : clashes_with_one (take c.loop-i.i c.args.chains.now) chain ≡ true =
    sym (taken c.loop-i.kinds (take c.loop-i.i c.args.chains.now) chain c.loop-i.invariant.kinds)
    ∙ sym c.is_taken.ensures ∙ c.if-is_taken.true in
    same-refusal c.refuse.result (fault DuplicateMatch c.index.result) _
    (ap (λ place. first (fault DuplicateMatch place)) c.index.ensures
    ∙ sym (c.loop-i.invariant.faults
    ∙ clashing c.args.chains.now c.loop-i.i chain c.args.at.now c.loop-i-test.true c.index-chains-i.is clash))
    c.refuse.ensures

pub loop-i-preserved : goal.loop-i-preserved
loop-i-preserved c =
    let chain = c.index-chains-i.result in
    let apart : clashes_with_one (take c.loop-i.i c.args.chains.now) chain ≡ false =
    sym (taken c.loop-i.kinds (take c.loop-i.i c.args.chains.now) chain c.loop-i.invariant.kinds)
    ∙ sym c.is_taken.ensures ∙ c.if-is_taken.false in
    record {
      faults = c.loop-i.invariant.faults
          ∙ passing c.args.chains.now c.loop-i.i chain c.args.at.now c.loop-i-test.true c.index-chains-i.is apart;
      kinds = one-chain-more c.loop-i.kinds c.keep.new.kinds c.args.chains.now c.loop-i.i chain c.loop-i-test.true
          c.index-chains-i.is c.loop-i.invariant.kinds c.in_ok-keep.ensures;
    }
