-- How a `List` stores its items, so that a type may reach itself through one: the items lie where those of
-- its `Vec` lie, and its value is the list of them.
use mathlib.Core.Path.{◌≡◌, refl, sym}
use mathlib.Core.List as plain
use mathlib.Core.Former.{Former, this, list, via, children}
use base.Stored.{code_map}
use denote.RattleType.{RattleType}
use denote.HoleLaws.{Alike}
use denote.HolePlaces.{Recodes, struct_places, laid}
use denote.Hole.Carrier.{listed, list-listed}
use denote.Hole.Fix.{over}
use denote.Param.Weighed.{Weighed, w_list}
use denote.Model.Placed.{view_places}
use Rattle.std.specs.formers.vec.Vec as vec
use Rattle.std.specs.declared.alloc.Global.{Global}
use Rattle.std.specs.contracts.alloc.Global as heap
use Rattle.std.specs.contracts.impls.GlobalAllocator.TheImpl.{ghosts}
use Rattle.mesh_text.specs.declared.list.List.TheInside.{Inside}
use Rattle.mesh_text.specs.declared.list.List.TheView.{view, invariant}
use Rattle.mesh_text.specs.contracts.list.List as contract
use Rattle.mesh_text.specs.contracts.list.List.TheInside as inside

-- a list of what the type inside holds
abbrev pub the_former : Former {0} → Former {0}
the_former g = list g

abbrev pub the_weighed : {g : Former {0}} → Weighed g → Weighed (the_former g)
the_weighed w = w_list w

-- a list can hold nothing at all
abbrev pub the_empty : plain.List ⊥
the_empty = plain.[]

abbrev pub the_items : (X : Type 0) → plain.List X → plain.List X
the_items X items = items

pub the_items_listed : (X : Type 0) (items : plain.List X) → listed _ (children (the_former this) X items) ≡ the_items X items
the_items_listed X items = list-listed X items

-- the one field
abbrev stored : Former {0}
stored = via (vec.the_former this Global) Inside (λ X l. l.items) (λ X v. record { items = v }) (λ X l. refl) (λ X v. refl)

module _ (from to : RattleType) (h : from.Denot → to.Denot) where
  pub the_places : Alike from to h
      → Alike (contract.the_row from) (contract.the_row to) ((the_former this).map from.Denot to.Denot h)
  the_places same =
      let field = laid _ _ _ (vec.the_places heap.the_row ghosts from to h same) in
      view_places stored (list this) view (λ X Y k u. refl) (λ X u. refl) from.Denot to.Denot h
      (contract.the_row from).coded (contract.the_row to).coded
      (invariant from.Denot) (invariant to.Denot) (λ u p q. refl) (λ u p q. refl) (λ u e. tt) (λ u e. tt)
      (over (inside.the_row from)) (over (inside.the_row to))
      (struct_places (inside.the_type from) (inside.the_type to) (vec.mapped h, tt) _ (λ d. refl) refl (field, tt))

  pub the_codes_placed : Recodes from to h
      → Recodes (contract.the_row from) (contract.the_row to) ((the_former this).map from.Denot to.Denot h)
  the_codes_placed same items = sym (code_map from.coded.code to.coded.code h (λ x. sym (same x)) items)
