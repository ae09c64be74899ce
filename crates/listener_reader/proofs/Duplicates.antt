-- The chains of a listener, one by one: each clashes with an earlier one, or is passed.
use Rattle.std.proofs.Common.{◌≡◌, ℕ, ◌+◌, ◌<◌, true, false, not, List, [], ◌∷◌, ◌++◌, length, take, drop, get_or, refl, sym, ap, ◌∙◌}
use Rattle.std.proofs.lemmas.List.{drop_more, take_more}
use Rattle.std.specs.BTreeSet.{BTreeSet}
use Rattle.mesh_doc.specs.Faults.{Faults, Refuses, fault, first, joined, unless}
use Rattle.mesh_doc.specs.Places.{Steps, at_index}
use Rattle.mesh_doc.specs.declared.fault.DocError.{DocError}
use Rattle.mesh_doc.specs.declared.fault.DocError.TheVariants as error
use Rattle.mesh_doc.specs.declared.reason.Reason.TheVariants.{DuplicateMatch}
use Rattle.envoy_types.specs.ChainForms.{clashes_with_one, duplicates}
use Rattle.envoy_types.specs.declared.chains.FilterChain.{FilterChain}
use Rattle.listener_reader.specs.Targets.{Kind, has, one_is_for}
use Rattle.listener_reader.specs.declared.clashes.Key.{Key}

-- a refusal is that of any faults with the same first one
pub same-refusal : (e : DocError) (fs gs : Faults) → first fs ≡ first gs → Refuses e fs → Refuses e gs
same-refusal (error.Fault f) fs gs same h = sym same ∙ h
same-refusal error.Memory fs gs same h = tt

module _ (chains : List FilterChain) (i : ℕ) (chain : FilterChain) (at : Steps) (inside : i < length chains)
    (is : chain ≡ get_or chains i chain) where
  at-chain : duplicates (take i chains) i (drop i chains) at
      ≡ joined (unless (not (clashes_with_one (take i chains) chain)) DuplicateMatch (at_index i at))
      (duplicates (take (i + 1) chains) (i + 1) (drop (i + 1) chains) at)
  at-chain =
      ap (λ cs. duplicates (take i chains) i cs at) (drop_more chains i chain inside ∙ ap (λ c. c ∷ drop (i + 1) chains) (sym is))
      ∙ ap (λ es. joined (unless (not (clashes_with_one (take i chains) chain)) DuplicateMatch (at_index i at))
      (duplicates es (i + 1) (drop (i + 1) chains) at)) (sym (take_more chains i chain inside ∙ ap (λ c. take i chains ++ c ∷ []) (sym is)))

  pub clashing : clashes_with_one (take i chains) chain ≡ true
      → first (duplicates (take i chains) i (drop i chains) at) ≡ first (fault DuplicateMatch (at_index i at))
  clashing h = ap first at-chain ∙ rw h refl

  pub passing : clashes_with_one (take i chains) chain ≡ false
      → first (duplicates (take i chains) i (drop i chains) at)
      ≡ first (duplicates (take (i + 1) chains) (i + 1) (drop (i + 1) chains) at)
  passing h = ap first at-chain ∙ rw h refl

-- no kind is there yet
pub nothing : (kinds : BTreeSet Key) → kinds.keys ≡ [] → (kind : Kind) → has kinds kind ≡ one_is_for [] kind
unfolding has one_is_for
nothing kinds e kind = rw e refl
