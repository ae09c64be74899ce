-- The tree of a path value holds exactly where the value matches the path of a request.
use Rattle.std.proofs.Common.{◌≡◌, ℕ, Bool, true, false, not, List, [], ◌∷◌, length}
use Rattle.std.proofs.Common.{Option, Some, None, IsTrue, is_some, if◌then◌else◌, refl, sym, ◌∙◌, ap, subst}
use Rattle.std.proofs.Math.Dec.{eqb-suc-zero}
use Rattle.std.specs.Option.{option_map}
use Rattle.mesh_policy.specs.Attributes.{Seen, seen_request, text_or_absent}
use Rattle.mesh_policy.specs.Path.{path_of}
use Rattle.mesh_policy.specs.Pattern.{pattern_holds, pattern_of}
use Rattle.mesh_policy.specs.RuleHolds.{path_matches}
use Rattle.mesh_policy.specs.Template.{is_template, template_holds, template_of, uri_of}
use Rattle.mesh_policy.specs.declared.case.Case.{Case}
use Rattle.mesh_policy.specs.declared.pattern.Pattern.{Pattern}
use Rattle.mesh_policy.specs.declared.pattern.Pattern.TheVariants.{Exact, Prefix, Suffix, Present}
use Rattle.mesh_policy.specs.declared.request.Request.{Request}
use Rattle.mesh_tree.specs.Judge.{tree_holds}
use Rattle.mesh_tree.specs.declared.tree.Tree.{Tree}
use Rattle.envoy_types.specs.Permission.{leaf_holds}
use Rattle.envoy_types.specs.State.{holds_of}
use Rattle.envoy_types.specs.Strings.{matcher_of, matcher_with, string_holds}
use Rattle.envoy_types.specs.declared.permission.PermissionLeaf.{PermissionLeaf}
use Rattle.envoy_types.specs.declared.permission.PermissionLeaf.TheVariants.{UriTemplate, UrlPath}
use Rattle.envoy_types.specs.declared.strings.MatchKind.TheVariants as kind
use Rattle.envoy_types.specs.declared.strings.StringMatcher.{StringMatcher}
use Rattle.str_match.specs.Paths.{HoldsAsPath, on_path, path_as, path_by, path_tree}
use Rattle.mesh_tree.proofs.JudgeLemmas.{holds-leaf, holds-not}

-- a test of the path agrees with the form
abbrev Agree : (List ℕ → Bool) → Pattern → Type 0
Agree test form = (t : List ℕ) → test t ≡ pattern_holds form t

present-agrees : Agree (λ t. not (string_holds (matcher_with kind.Exact [] false) t)) Present
present-agrees [] = refl
present-agrees (c ∷ cs) = sym (ap not (eqb-suc-zero (length cs)))

-- ---- the path of a request that is seen

module _ (p : PermissionLeaf → Bool) (path : List ℕ) where
  -- the leaves on paths are judged by it
  record JudgesPaths : Type 0 where
    words : (m : StringMatcher) → p (UrlPath m) ≡ string_holds m path
    template : (uri : List ℕ) → p (UriTemplate uri) ≡ template_holds uri path

  word-holds : JudgesPaths → (m : StringMatcher) (form : Pattern) → Agree (string_holds m) form
      → tree_holds p (on_path m) ≡ pattern_holds form path
  word-holds judges m form same = holds-leaf p (UrlPath m) ∙ judges.words m ∙ same path

  by-holds : JudgesPaths → (form : Pattern) → tree_holds p (path_by (matcher_of form false)) ≡ pattern_holds form path
  by-holds judges (Exact v) = word-holds judges (matcher_with kind.Exact v false) (Exact v) (λ t. refl)
  by-holds judges (Prefix v) = word-holds judges (matcher_with kind.Prefix v false) (Prefix v) (λ t. refl)
  by-holds judges (Suffix v) = word-holds judges (matcher_with kind.Suffix v false) (Suffix v) (λ t. refl)
  by-holds judges Present =
      let empty = matcher_with kind.Exact [] false in
      holds-not p (on_path empty) ∙ ap not (holds-leaf p (UrlPath empty) ∙ judges.words empty) ∙ present-agrees path

  as-holds : JudgesPaths → (value : List ℕ)
      → tree_holds p (path_as (template_of value) value)
      ≡ (if is_template value then template_holds (uri_of value) else pattern_holds (pattern_of value)) path
  as-holds judges value = at (is_template value) where
    at : (b : Bool) → tree_holds p (path_as (if b then Some (uri_of value) else None) value)
        ≡ (if b then template_holds (uri_of value) else pattern_holds (pattern_of value)) path
    at true = holds-leaf p (UriTemplate (uri_of value)) ∙ judges.template (uri_of value)
    at false = by-holds judges (pattern_of value)

-- ---- a case in which a request is seen

pub path-holds : (value : List ℕ) → HoldsAsPath (path_tree value) value
unfolding path_tree
path-holds value = λ case seen there. at case seen (seen_request case seen) refl there where
  at : (case : Case) (seen : Seen) (r : Option Request) → seen_request case seen ≡ r → IsTrue (is_some r)
      → tree_holds (λ leaf. leaf_holds leaf case seen) (path_as (template_of value) value)
      ≡ path_matches (text_or_absent (option_map (λ request. path_of request.path) (seen_request case seen))) value
  at case seen None is there = let wrong : false ≡ true = there in absurd cc
  at case seen (Some request) is there =
      as-holds (λ leaf. leaf_holds leaf case seen) (path_of request.path)
      (record {
        words = λ m. ap (holds_of (λ r. string_holds m (path_of r.path))) is;
        template = λ uri. ap (holds_of (λ r. template_holds uri (path_of r.path))) is;
      })
      value
      ∙ sym (ap (λ o. path_matches (text_or_absent (option_map (λ r. path_of r.path) o)) value) is)

-- ---- the tree that is made

pub made-path : (value : List ℕ) (tree : Tree PermissionLeaf) → tree ≡ path_tree value → HoldsAsPath tree value
made-path value tree made = subst (λ t. HoldsAsPath t value) (sym made) (path-holds value)
