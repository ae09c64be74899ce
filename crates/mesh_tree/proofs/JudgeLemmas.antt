-- What a tree of one node holds for. One that is joined of parts holds where all of them do, or where one does.
use Rattle.std.proofs.Common.{◌≡◌, ◌<◌, Bool, true, not, ◌&&◌, ◌||◌, List, [], ◌∷◌, length, map, Result, Ok, Err, IfOk}
use Rattle.std.proofs.Common.{ap, sym, refl, ◌∙◌, arith}
use Rattle.std.proofs.Math.Bool.{and-true, or-false}
use Rattle.std.proofs.lemmas.List.Folds.{list_all-append, list_all-map, list_any-append}
use Rattle.std.specs.List.{flat_map, list_all, list_any}
use Rattle.mesh_text.specs.declared.memory.Memory.{Memory}
use Rattle.mesh_tree.specs.declared.tree.Node.{Node, Node-F, fold-Node, fold-roll-Node, out-Node}
use Rattle.mesh_tree.specs.declared.tree.Node.TheVariants.{And, Any, Leaf, Not, Or, rolls-Not}
use Rattle.mesh_tree.specs.declared.tree.Tree.{Tree, fold-roll-Tree, out-Tree}
use Rattle.mesh_tree.specs.Joined.{and_entries, and_entries_at, and_of, or_entries, or_entries_at, or_of}
use Rattle.mesh_tree.specs.Judge.{node_holds, tree_holds}
use Rattle.mesh_tree.specs.Tree.{tree_of}
use Rattle.mesh_tree.proofs.FoldLemmas.{folded_And, folded_Or, folded-tree_of-And, folded-tree_of-Or, fold-node, fold-tree_of, opened}

list_any-map : {X Y : Type 0} (p : X → Bool) (h : Y → X) (ys : List Y) → list_any p (map h ys) ≡ list_any (λ y. p (h y)) ys
list_any-map p h [] = refl
list_any-map p h (y ∷ ys) = ap (λ b. p (h y) || b) (list_any-map p h ys)

list_all-flat_map : {T : Type 0} (p : T → Bool) (entries : T → List T) → ((t : T) → list_all p (entries t) ≡ p t) → (ts : List T)
    → list_all p (flat_map entries ts) ≡ list_all p ts
list_all-flat_map p entries each [] = refl
list_all-flat_map p entries each (t ∷ ts) =
    list_all-append p (entries t) (flat_map entries ts)
    ∙ ap (λ b. b && list_all p (flat_map entries ts)) (each t)
    ∙ ap (λ b. p t && b) (list_all-flat_map p entries each ts)

list_any-flat_map : {T : Type 0} (p : T → Bool) (entries : T → List T) → ((t : T) → list_any p (entries t) ≡ p t) → (ts : List T)
    → list_any p (flat_map entries ts) ≡ list_any p ts
list_any-flat_map p entries each [] = refl
list_any-flat_map p entries each (t ∷ ts) =
    list_any-append p (entries t) (flat_map entries ts)
    ∙ ap (λ b. b || list_any p (flat_map entries ts)) (each t)
    ∙ ap (λ b. p t || b) (list_any-flat_map p entries each ts)

module _ {L : Type 0} (p : L → Bool) where
  -- what the helpers of the judge answer over the parts of a node
  pub holds_And : (t : Tree L) (parts items : List (Tree L)) (r : Bool) → (out-Tree L t).node ≡ And parts → items ≡ parts
      → r ≡ list_all (tree_holds p) items → r ≡ tree_holds p t
  holds_And t parts items r h same e =
      e ∙ ap (list_all (tree_holds p)) same
      ∙ sym (folded_And (node_holds p) t parts h ∙ list_all-map (λ b. b) (tree_holds p) parts)

  pub holds_Or : (t : Tree L) (parts items : List (Tree L)) (r : Bool) → (out-Tree L t).node ≡ Or parts → items ≡ parts
      → r ≡ list_any (tree_holds p) items → r ≡ tree_holds p t
  holds_Or t parts items r h same e =
      e ∙ ap (list_any (tree_holds p)) same
      ∙ sym (folded_Or (node_holds p) t parts h ∙ list_any-map (λ b. b) (tree_holds p) parts)

  and_entries-hold_at : (t : Tree L) (x : Node-F L (Node L) (Tree L)) → tree_holds p t ≡ node_holds p (opened (node_holds p) x)
      → list_all (tree_holds p) (and_entries_at t x) ≡ tree_holds p t
  and_entries-hold_at t Node-F.Any h = and-true (tree_holds p t)
  and_entries-hold_at t (Node-F.Leaf l) h = and-true (tree_holds p t)
  and_entries-hold_at t (Node-F.And parts) h = sym (h ∙ list_all-map (λ b. b) (tree_holds p) parts)
  and_entries-hold_at t (Node-F.Or parts) h = and-true (tree_holds p t)
  and_entries-hold_at t (Node-F.Not part) h = and-true (tree_holds p t)

  and_entries-hold : (t : Tree L) → list_all (tree_holds p) (and_entries t) ≡ tree_holds p t
  and_entries-hold t = and_entries-hold_at t (out-Node L (out-Tree L t).node) (fold-node (node_holds p) t)

  or_entries-hold_at : (t : Tree L) (x : Node-F L (Node L) (Tree L)) → tree_holds p t ≡ node_holds p (opened (node_holds p) x)
      → list_any (tree_holds p) (or_entries_at t x) ≡ tree_holds p t
  or_entries-hold_at t Node-F.Any h = or-false (tree_holds p t)
  or_entries-hold_at t (Node-F.Leaf l) h = or-false (tree_holds p t)
  or_entries-hold_at t (Node-F.And parts) h = or-false (tree_holds p t)
  or_entries-hold_at t (Node-F.Or parts) h = sym (h ∙ list_any-map (λ b. b) (tree_holds p) parts)
  or_entries-hold_at t (Node-F.Not part) h = or-false (tree_holds p t)

  or_entries-hold : (t : Tree L) → list_any (tree_holds p) (or_entries t) ≡ tree_holds p t
  or_entries-hold t = or_entries-hold_at t (out-Node L (out-Tree L t).node) (fold-node (node_holds p) t)

  -- ---- a tree of one node

  pub holds-any : tree_holds p (tree_of Any) ≡ true
  unfolding out-Node denote.Hole.Carrier.out
  holds-any = fold-tree_of (node_holds p) Any

  pub holds-leaf : (leaf : L) → tree_holds p (tree_of (Leaf leaf)) ≡ p leaf
  unfolding out-Node denote.Hole.Carrier.out
  holds-leaf leaf = fold-tree_of (node_holds p) (Leaf leaf)

  pub holds-not : (t : Tree L) → tree_holds p (tree_of (Not t)) ≡ not (tree_holds p t)
  holds-not t =
      fold-roll-Tree L Bool Bool (node_holds p) (λ t. t.node) (record { node = Not t })
      ∙ ap (fold-Node L Bool Bool (node_holds p) (λ t. t.node)) (sym (rolls-Not t))
      ∙ fold-roll-Node L Bool Bool (node_holds p) (λ t. t.node) (Node-F.Not t)

  -- ---- a tree that is joined

  pub holds-and : (t : Tree L) (ts : List (Tree L)) → tree_holds p (and_of (t ∷ ts)) ≡ list_all (tree_holds p) (t ∷ ts)
  holds-and t [] = sym (and-true (tree_holds p t))
  holds-and t (u ∷ ts) =
      let entries = flat_map and_entries (t ∷ u ∷ ts) in
      folded-tree_of-And (node_holds p) entries ∙ list_all-map (λ b. b) (tree_holds p) entries
      ∙ list_all-flat_map (tree_holds p) and_entries and_entries-hold (t ∷ u ∷ ts)

  pub holds-or : (t : Tree L) (ts : List (Tree L)) → tree_holds p (or_of (t ∷ ts)) ≡ list_any (tree_holds p) (t ∷ ts)
  holds-or t [] = sym (or-false (tree_holds p t))
  holds-or t (u ∷ ts) =
      let entries = flat_map or_entries (t ∷ u ∷ ts) in
      folded-tree_of-Or (node_holds p) entries ∙ list_any-map (λ b. b) (tree_holds p) entries
      ∙ list_any-flat_map (tree_holds p) or_entries or_entries-hold (t ∷ u ∷ ts)

  holds-and_of : (ts : List (Tree L)) → 0 < length ts → tree_holds p (and_of ts) ≡ list_all (tree_holds p) ts
  holds-and_of [] some = absurd (omega (arith, some))
  holds-and_of (t ∷ ts) some = holds-and t ts

  holds-or_of : (ts : List (Tree L)) → 0 < length ts → tree_holds p (or_of ts) ≡ list_any (tree_holds p) ts
  holds-or_of [] some = absurd (omega (arith, some))
  holds-or_of (t ∷ ts) some = holds-or t ts

-- where there was memory
pub and_meaning : {L : Type 0} (ts : List (Tree L)) → 0 < length ts → (r : Result (Tree L) Memory) → IfOk r (λ t. t ≡ and_of ts)
    → IfOk r (λ t. (p : L → Bool) → tree_holds p t ≡ list_all (tree_holds p) ts)
and_meaning ts some (Ok t) shape = λ p. ap (tree_holds p) shape ∙ holds-and_of p ts some
and_meaning ts some (Err e) shape = tt

pub or_meaning : {L : Type 0} (ts : List (Tree L)) → 0 < length ts → (r : Result (Tree L) Memory) → IfOk r (λ t. t ≡ or_of ts)
    → IfOk r (λ t. (p : L → Bool) → tree_holds p t ≡ list_any (tree_holds p) ts)
or_meaning ts some (Ok t) shape = λ p. ap (tree_holds p) shape ∙ holds-or_of p ts some
or_meaning ts some (Err e) shape = tt
