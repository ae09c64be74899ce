-- How a `Boxed` stores its value, so that a type may reach itself through one: the value lies where that of
-- its `Box` lies, and it is the value that contracts see.
use mathlib.Core.Path.{refl}
use mathlib.Core.Former.{Former, this, const, pair, via}
use base.Stored.{gnil}
use base.Fml.{ftrue}
use denote.RattleType.{RattleType}
use denote.Memory.{part_of}
use denote.RawPtr.{Ptr}
use denote.Sharing.{nothing}
use denote.HoleLaws.{Alike}
use denote.HolePlaces.{Recodes, struct_places, laid, one_value}
use denote.Hole.Fix.{over}
use denote.Param.Weighed.{Weighed}
use denote.Model.Placed.{view_places}
use Rattle.std.specs.declared.boxed.Box.{Box}
use Rattle.std.specs.contracts.boxed.Box as box
use Rattle.std.specs.declared.alloc.Global.{Global}
use Rattle.std.specs.contracts.alloc.Global as heap
use Rattle.std.specs.contracts.impls.GlobalAllocator.TheImpl.{ghosts}
use Rattle.mesh_text.specs.declared.boxed.Boxed.TheInside.{Inside}
use Rattle.mesh_text.specs.declared.boxed.Boxed.TheView.{view, invariant}
use Rattle.mesh_text.specs.contracts.boxed.Boxed as contract
use Rattle.mesh_text.specs.contracts.boxed.Boxed.TheInside as inside

-- what the type inside holds, once
abbrev pub the_former : Former {0} → Former {0}
the_former g = g

abbrev pub the_weighed : {g : Former {0}} → Weighed g → Weighed (the_former g)
the_weighed w = w

-- the one field: a pointer and the allocator, beside the value
abbrev stored : Former {0}
stored = via (pair (const (Ptr × Global)) this) Inside
    (λ X b. ((b.inner.ptr, b.inner.alloc), b.inner.value))
    (λ X parts. record { inner = record { ptr = parts.0.0; alloc = parts.0.1; value = parts.1 } })
    (λ X b. refl) (λ X parts. refl)

-- the same box round another value
abbrev holding : {X Y : Type 0} → Box X Global → Y → Box Y Global
holding b value = record { ptr = b.ptr; alloc = b.alloc; value = value }

abbrev box_row : RattleType → RattleType
box_row T = box.the_row T heap.the_row ghosts

module _ (from to : RattleType) (h : from.Denot → to.Denot) where
  box_places : Alike from to h → Alike (box_row from) (box_row to) (λ b. holding b (h b.value))
  unfolding part_of
  box_places same = record {
    mir_same = λ i. (box_row (one_value from (same.mir_same i) (λ _. ftrue) (λ _ _. nothing) gnil)).mir;
    own_same = λ b i.
        (box_row (one_value from (same.mir_same i) (same.own_same b.value i) (same.shr_same b.value i) gnil)).own_val (holding b tt);
    shr_same = λ b i.
        (box_row (one_value from (same.mir_same i) (same.own_same b.value i) (same.shr_same b.value i) gnil)).shr_at (holding b tt);
  }

  pub the_places : Alike from to h
      → Alike (contract.the_row from) (contract.the_row to) ((the_former this).map from.Denot to.Denot h)
  the_places same =
      let field = laid _ _ _ (box_places same) in
      view_places stored this view (λ X Y k u. refl) (λ X u. refl) from.Denot to.Denot h
      (contract.the_row from).coded (contract.the_row to).coded
      (invariant from.Denot) (invariant to.Denot) (λ u p q. refl) (λ u p q. refl) (λ u e. tt) (λ u e. tt)
      (over (inside.the_row from)) (over (inside.the_row to))
      (struct_places (inside.the_type from) (inside.the_type to) ((λ b. holding b (h b.value)), tt) _ (λ d. refl) refl (field, tt))

  pub the_codes_placed : Recodes from to h
      → Recodes (contract.the_row from) (contract.the_row to) ((the_former this).map from.Denot to.Denot h)
  the_codes_placed same value = same value
