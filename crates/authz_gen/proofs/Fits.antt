-- Trees that can be written and are at most so many entries wide, and what is made of them by the words on lists.
use Rattle.std.proofs.Common.{◌≡◌, ℕ, ◌+◌, ◌*◌, ◌≤◌, true, Bool, false, All, List, [], ◌∷◌, ◌++◌, map, cond, refl, sym, ◌∙◌, ap}
use Rattle.std.proofs.Common.{length, arith, if◌then◌else◌, subst}
use Rattle.std.proofs.Math.Dec.{eqb-suc-zero}
use Rattle.std.proofs.lemmas.Bool.{and_from, and_parts}
use Rattle.std.proofs.lemmas.List.Elements.{All-head, All-tail}
use Rattle.std.proofs.lemmas.List.Folds.{list_all-append}
use Rattle.std.specs.List.{flat_map, list_all}
use Rattle.mesh_policy.specs.Lists.{total}
use Rattle.mesh_tree.specs.Joined.{and_of, or_of}
use Rattle.mesh_tree.specs.Tree.{tree_of}
use Rattle.mesh_tree.specs.declared.tree.Node.TheVariants as Node
use Rattle.mesh_tree.specs.declared.tree.Tree.{Tree}
use Rattle.envoy_types.specs.TreeForms.{TreeForm}
use Rattle.authz_gen.specs.Lists.{all_of, field_of, if_any, none_of}
use Rattle.authz_gen.proofs.TreePrintable.{and_entries-fit, or_entries-fit, printable, printable-Any, printable-Leaf, printable-Not}
use Rattle.authz_gen.proofs.TreePrintable.{printable-and_of, printable-or_of}
use Rattle.authz_gen.proofs.Widths.{and_width, and_width-Any, and_width-Leaf, and_width-Not, and_width-and, and_width-or}
use Rattle.authz_gen.proofs.Widths.{or_width, or_width-Any, or_width-Leaf, or_width-Not, or_width-and, or_width-or}

-- the tree can be written, and is at most so many entries of an Or, and of an And
pub record Fits {L : Type 0} (form : TreeForm L) (tree : Tree L) (most : ℕ) : Type 0 where
  pub written : printable form tree ≡ true
  pub or_few : or_width tree ≤ most
  pub and_few : and_width tree ≤ most

-- these trees can, and are at most so many together
pub record AllFit {L : Type 0} (form : TreeForm L) (trees : List (Tree L)) (most : ℕ) : Type 0 where
  pub written : list_all (printable form) trees ≡ true
  pub or_few : total or_width trees ≤ most
  pub and_few : total and_width trees ≤ most

total-append : {A : Type 0} (f : A → ℕ) (xs ys : List A) → total f (xs ++ ys) ≡ total f xs + total f ys
total-append f [] ys = omega arith
total-append f (x ∷ xs) ys = let rest = total-append f xs ys in omega (arith, rest)

module _ {L : Type 0} (form : TreeForm L) where
  -- ---- one tree

  pub fits-more : (t : Tree L) (n m : ℕ) → Fits form t n → n ≤ m → Fits form t m
  fits-more t n m h more = record {
    written = h.written;
    or_few = omega (arith, h.or_few, more);
    and_few = omega (arith, h.and_few, more);
  }

  pub fits-any : Fits form (tree_of Node.Any) 1
  fits-any = record {
    written = printable-Any form;
    or_few = omega (arith, or_width-Any L);
    and_few = omega (arith, and_width-Any L);
  }

  pub fits-leaf : (leaf : L) → form.leaf_is_printable leaf ≡ true → Fits form (tree_of (Node.Leaf leaf)) 1
  fits-leaf leaf h = record {
    written = printable-Leaf form leaf ∙ h;
    or_few = omega (arith, or_width-Leaf leaf);
    and_few = omega (arith, and_width-Leaf leaf);
  }

  pub fits-not : (t : Tree L) (n : ℕ) → Fits form t n → Fits form (tree_of (Node.Not t)) 1
  fits-not t n h = record {
    written = printable-Not form t ∙ h.written;
    or_few = omega (arith, or_width-Not t);
    and_few = omega (arith, and_width-Not t);
  }

  -- ---- some trees

  pub all-more : (ts : List (Tree L)) (n m : ℕ) → AllFit form ts n → n ≤ m → AllFit form ts m
  all-more ts n m h more = record {
    written = h.written;
    or_few = omega (arith, h.or_few, more);
    and_few = omega (arith, h.and_few, more);
  }

  pub no-trees : (n : ℕ) → AllFit form [] n
  no-trees n = record { written = refl; or_few = omega arith; and_few = omega arith }

  pub one-more : (t : Tree L) (ts : List (Tree L)) (n m : ℕ) → Fits form t n → AllFit form ts m → AllFit form (t ∷ ts) (n + m)
  one-more t ts n m h k = record {
    written = and_from _ _ h.written k.written;
    or_few = omega (arith, h.or_few, k.or_few);
    and_few = omega (arith, h.and_few, k.and_few);
  }

  pub one-tree : (t : Tree L) (n : ℕ) → Fits form t n → AllFit form (t ∷ []) n
  one-tree t n h = all-more (t ∷ []) (n + 0) n (one-more t [] n 0 h (no-trees 0)) (omega arith)

  pub where-true : (b : Bool) (t : Tree L) (n : ℕ) → Fits form t n → AllFit form (if b then t ∷ [] else []) n
  where-true true t n h = one-tree t n h
  where-true false t n h = no-trees n

  pub both-fit : (ts us : List (Tree L)) (n m : ℕ) → AllFit form ts n → AllFit form us m → AllFit form (ts ++ us) (n + m)
  both-fit ts us n m h k =
      let ors = total-append or_width ts us in
      let ands = total-append and_width ts us in
      record {
        written = list_all-append (printable form) ts us ∙ and_from _ _ h.written k.written;
        or_few = omega (arith, ors, h.or_few, k.or_few);
        and_few = omega (arith, ands, h.and_few, k.and_few);
      }

  pub each-all-fit : {A : Type 0} (weight : A → ℕ) (trees : A → List (Tree L)) → ((x : A) → AllFit form (trees x) (weight x))
      → (xs : List A) → AllFit form (flat_map trees xs) (total weight xs)
  each-all-fit weight trees each [] = no-trees 0
  each-all-fit weight trees each (x ∷ xs) =
      both-fit (trees x) (flat_map trees xs) (weight x) (total weight xs) (each x) (each-all-fit weight trees each xs)

  -- ---- joined trees

  first-or : (t : Tree L) (ts : List (Tree L)) (n : ℕ) → AllFit form (t ∷ ts) n → 1 ≤ or_width t
  first-or t ts n h = (or_entries-fit form t (and_parts (printable form t) (list_all (printable form) ts) h.written).0).0

  first-and : (t : Tree L) (ts : List (Tree L)) (n : ℕ) → AllFit form (t ∷ ts) n → 1 ≤ and_width t
  first-and t ts n h = (and_entries-fit form t (and_parts (printable form t) (list_all (printable form) ts) h.written).0).0

  pub fits-or : (t : Tree L) (ts : List (Tree L)) (n : ℕ) → AllFit form (t ∷ ts) n → n ≤ 8192 → Fits form (or_of (t ∷ ts)) n
  fits-or t ts n h few =
      let ors = or_width-or t ts in
      let ands = and_width-or t ts (first-and t ts n h) in
      record {
        written = printable-or_of form t ts h.written (omega (arith, h.or_few, few));
        or_few = omega (arith, ors, h.or_few);
        and_few = omega (arith, ands, h.and_few);
      }

  pub fits-and : (t : Tree L) (ts : List (Tree L)) (n : ℕ) → AllFit form (t ∷ ts) n → n ≤ 8192 → Fits form (and_of (t ∷ ts)) n
  fits-and t ts n h few =
      let ors = or_width-and t ts (first-or t ts n h) in
      let ands = and_width-and t ts in
      record {
        written = printable-and_of form t ts h.written (omega (arith, h.and_few, few));
        or_few = omega (arith, ors, h.or_few);
        and_few = omega (arith, ands, h.and_few);
      }

  -- ---- the words on lists

  if_any-some : (join : List (Tree L) → Tree L) (t : Tree L) (ts : List (Tree L)) → if_any join (t ∷ ts) ≡ join (t ∷ ts) ∷ []
  if_any-some join t ts = ap (λ b. cond b [] (join (t ∷ ts) ∷ [])) (eqb-suc-zero (length ts))

  all_of-some : (t : Tree L) (ts : List (Tree L)) → all_of (t ∷ ts) ≡ and_of (t ∷ ts)
  all_of-some t ts = ap (λ b. cond b (tree_of Node.Any) (and_of (t ∷ ts))) (eqb-suc-zero (length ts))

  pub one-of-fits : (ts : List (Tree L)) (n : ℕ) → AllFit form ts n → n ≤ 8192 → AllFit form (if_any or_of ts) n
  one-of-fits [] n h few = no-trees n
  one-of-fits (t ∷ ts) n h few =
      subst (λ us. AllFit form us n) (sym (if_any-some or_of t ts)) (one-tree (or_of (t ∷ ts)) n (fits-or t ts n h few))

  pub none-of-fits : (ts : List (Tree L)) (n : ℕ) → AllFit form ts n → n ≤ 8192 → AllFit form (if_any none_of ts) n
  none-of-fits [] n h few = no-trees n
  none-of-fits (t ∷ ts) n h few =
      let first = first-or t ts n h in
      let some : 1 ≤ n = omega (arith, first, h.or_few) in
      let none : Fits form (none_of (t ∷ ts)) 1 = fits-not (or_of (t ∷ ts)) n (fits-or t ts n h few) in
      subst (λ us. AllFit form us n) (sym (if_any-some none_of t ts))
      (one-tree (none_of (t ∷ ts)) n (fits-more (none_of (t ∷ ts)) 1 n none some))

  -- a field and the `not` field beside it are no wider than their values
  pub field-fits : (values not_values : List (Tree L)) (n m : ℕ) → AllFit form values n → AllFit form not_values m → n + m ≤ 8192
      → AllFit form (field_of values not_values) (n + m)
  field-fits values not_values n m h k few =
      both-fit (if_any or_of values) (if_any none_of not_values) n m (one-of-fits values n h (omega (arith, few)))
      (none-of-fits not_values m k (omega (arith, few)))

  -- all of some trees are at most one entry wider than they are
  pub all-of-fits : (ts : List (Tree L)) (n : ℕ) → AllFit form ts n → n ≤ 8192 → Fits form (all_of ts) (1 + n)
  all-of-fits [] n h few = fits-more (all_of []) 1 (1 + n) fits-any (omega arith)
  all-of-fits (t ∷ ts) n h few =
      subst (λ u. Fits form u (1 + n)) (sym (all_of-some t ts))
      (fits-more (and_of (t ∷ ts)) n (1 + n) (fits-and t ts n h few) (omega arith))

  -- ---- lists of values, of which each tree is at most three entries wide

  module _ {A : Type 0} (tree : A → Tree L) (Good : A → Type 0) (each : (x : A) → Good x → Fits form (tree x) 3) where
    values-fit : (xs : List A) → All Good xs → AllFit form (map tree xs) (3 * length xs)
    values-fit [] h = no-trees 0
    values-fit (x ∷ xs) h =
        all-more (map tree (x ∷ xs)) (3 + 3 * length xs) (3 * length (x ∷ xs))
        (one-more (tree x) (map tree xs) 3 (3 * length xs) (each x (All-head Good x xs h)) (values-fit xs (All-tail Good x xs h)))
        (omega arith)

    pub lists-fit : (xs not_xs : List A) → All Good xs → All Good not_xs → 3 * length xs + 3 * length not_xs ≤ 8192
        → AllFit form (field_of (map tree xs) (map tree not_xs)) (3 * length xs + 3 * length not_xs)
    lists-fit xs not_xs h k few =
        field-fits (map tree xs) (map tree not_xs) (3 * length xs) (3 * length not_xs) (values-fit xs h) (values-fit not_xs k) few
