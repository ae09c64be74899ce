-- The tree of a header by a string form holds exactly where the form matches the header's value.
use Rattle.std.proofs.Common.{◌≡◌, ℕ, ◌==◌, nat_eq, nat_le, Bool, true, false, not, ◌&&◌, List, [], ◌∷◌, length, codes, map}
use Rattle.std.proofs.Common.{Option, Some, None, IsTrue, refl, sym, ◌∙◌, ap, ap₂, subst}
use Rattle.std.proofs.Math.Bool.{and-false}
use Rattle.std.proofs.Math.Dec.{eqb-suc-zero}
use Rattle.std.proofs.lemmas.Bool.{eqb-true}
use Rattle.std.specs.Char.{to_ascii_lowercase}
use Rattle.std.specs.Option.{option_and_then, option_map}
use Rattle.std.specs.Str.{bytes_eq}
use Rattle.mesh_text.specs.Token.{is_token}
use Rattle.mesh_policy.specs.Attributes.{seen_request, text_or_absent}
use Rattle.mesh_policy.specs.Pattern.{pattern_holds, pattern_holds_folded}
use Rattle.mesh_policy.specs.RuleHolds.{text_matches}
use Rattle.mesh_policy.specs.Token.{value_of}
use Rattle.mesh_policy.specs.declared.pattern.Pattern.{Pattern}
use Rattle.mesh_policy.specs.declared.pattern.Pattern.TheVariants.{Exact, Prefix, Suffix, Present}
use Rattle.mesh_policy.specs.declared.request.Request.{Request}
use Rattle.mesh_tree.specs.Judge.{tree_holds}
use Rattle.mesh_tree.specs.Tree.{tree_of}
use Rattle.mesh_tree.specs.declared.tree.Node.TheVariants as Node
use Rattle.mesh_tree.proofs.JudgeLemmas.{holds-and, holds-leaf, holds-not}
use Rattle.envoy_types.specs.Headers.{header_holds, header_value, test_holds}
use Rattle.envoy_types.specs.Permission as permission
use Rattle.envoy_types.specs.Principal as principal
use Rattle.envoy_types.specs.State.{holds_of}
use Rattle.envoy_types.specs.Strings.{matcher_of, matcher_with, string_holds}
use Rattle.envoy_types.specs.declared.headers.HeaderMatch.{HeaderMatch}
use Rattle.envoy_types.specs.declared.headers.HeaderTest.TheVariants as test
use Rattle.envoy_types.specs.declared.permission.PermissionLeaf.TheVariants as asked
use Rattle.envoy_types.specs.declared.principal.PrincipalLeaf.TheVariants as asking
use Rattle.envoy_types.specs.declared.strings.MatchKind.TheVariants as kind
use Rattle.envoy_types.specs.declared.strings.StringMatcher.{StringMatcher}
use Rattle.str_match.specs.Headers.{HoldsAsHeader, HoldsAsHost, HoldsAsMethod, header_by, header_filled, header_test}
use Rattle.str_match.specs.Headers.{header_tree, host_tree, method_tree}

-- ---- string forms, folded or not

-- how a form is compared
abbrev pub compared : (fold : Bool) → Pattern → List ℕ → Bool
compared true p = pattern_holds_folded p
compared false p = pattern_holds p

abbrev no_text : StringMatcher
no_text = matcher_with kind.Exact [] false

filled-text : (t : List ℕ) → (not (bytes_eq [] t) && true) ≡ not (length t == 0)
filled-text [] = refl
filled-text (c ∷ cs) = sym (ap not (eqb-suc-zero (length cs)))

present-text : (fold : Bool) (t : List ℕ) → not (length t == 0) ≡ compared fold Present t
present-text false t = refl
present-text true [] = refl
present-text true (c ∷ cs) = ap not (eqb-suc-zero (length cs)) ∙ sym (ap not (eqb-suc-zero (length (map to_ascii_lowercase cs))))

-- ---- one header of a request, if there is one

module _ {L : Type 0} (p : L → Bool) (leaf : HeaderMatch → L) (request : Option Request) where
  -- the leaves are judged by that request
  abbrev pub JudgesHeaders : Type 0
  JudgesHeaders = (h : HeaderMatch) → p (leaf h) ≡ holds_of (header_holds h) request

  -- a form that a matcher stands for
  words-hold : JudgesHeaders → (name : List ℕ) (m : StringMatcher) (holds : List ℕ → Bool) → ((t : List ℕ) → string_holds m t ≡ holds t)
      → tree_holds p (header_test leaf name (test.Words m)) ≡ text_matches holds (text_or_absent (option_and_then (header_value name) request))
  words-hold judges name m holds same =
      holds-leaf p (leaf (record { name = name; test = test.Words m })) ∙ judges (record { name = name; test = test.Words m }) ∙ at request where
        of-value : (v : Option (List ℕ)) → test_holds (test.Words m) v ≡ text_matches holds (text_or_absent v)
        of-value None = refl
        of-value (Some t) = same t

        at : (r : Option Request) → holds_of (header_holds (record { name = name; test = test.Words m })) r
            ≡ text_matches holds (text_or_absent (option_and_then (header_value name) r))
        at None = refl
        at (Some r) = of-value (header_value name r)

  -- presence
  filled-holds : JudgesHeaders → (name : List ℕ) (fold : Bool)
      → tree_holds p (header_filled leaf name)
      ≡ text_matches (compared fold Present) (text_or_absent (option_and_then (header_value name) request))
  filled-holds judges name fold =
      let empty = header_test leaf name (test.Words no_text) in
      holds-and p (header_test leaf name test.Present) (tree_of (Node.Not empty) ∷ [])
      ∙ ap₂ (λ a b. a && (b && true)) there (holds-not p empty ∙ ap not filled) ∙ at request where
        there : tree_holds p (header_test leaf name test.Present) ≡ holds_of (header_holds (record { name = name; test = test.Present })) request
        there = holds-leaf p (leaf (record { name = name; test = test.Present })) ∙ judges (record { name = name; test = test.Present })

        filled : tree_holds p (header_test leaf name (test.Words no_text))
            ≡ holds_of (header_holds (record { name = name; test = test.Words no_text })) request
        filled = holds-leaf p (leaf (record { name = name; test = test.Words no_text })) ∙ judges (record { name = name; test = test.Words no_text })

        of-value : (v : Option (List ℕ)) → (test_holds test.Present v && (not (test_holds (test.Words no_text) v) && true))
            ≡ text_matches (compared fold Present) (text_or_absent v)
        of-value None = refl
        of-value (Some t) = filled-text t ∙ present-text fold t

        at : (r : Option Request)
            → (holds_of (header_holds (record { name = name; test = test.Present })) r
            && (not (holds_of (header_holds (record { name = name; test = test.Words no_text })) r) && true))
            ≡ text_matches (compared fold Present) (text_or_absent (option_and_then (header_value name) r))
        at None = refl
        at (Some r) = of-value (header_value name r)

  pub by-holds : JudgesHeaders → (name : List ℕ) (fold : Bool) (form : Pattern)
      → tree_holds p (header_by leaf name (matcher_of form fold))
      ≡ text_matches (compared fold form) (text_or_absent (option_and_then (header_value name) request))
  by-holds judges name true (Exact v) = words-hold judges name (matcher_with kind.Exact v true) _ (λ t. refl)
  by-holds judges name true (Prefix v) = words-hold judges name (matcher_with kind.Prefix v true) _ (λ t. refl)
  by-holds judges name true (Suffix v) = words-hold judges name (matcher_with kind.Suffix v true) _ (λ t. refl)
  by-holds judges name true Present = filled-holds judges name true
  by-holds judges name false (Exact v) = words-hold judges name (matcher_with kind.Exact v false) _ (λ t. refl)
  by-holds judges name false (Prefix v) = words-hold judges name (matcher_with kind.Prefix v false) _ (λ t. refl)
  by-holds judges name false (Suffix v) = words-hold judges name (matcher_with kind.Suffix v false) _ (λ t. refl)
  by-holds judges name false Present = filled-holds judges name false

-- ---- hosts, methods and headers

pub host-holds : (form : Pattern) → HoldsAsHost (host_tree form) form
unfolding host_tree
host-holds form = λ case seen.
    by-holds (λ leaf. permission.leaf_holds leaf case seen) asked.Header (seen_request case seen) (λ h. refl) (codes ":authority") true form

pub method-holds : (form : Pattern) → HoldsAsMethod (method_tree form) form
unfolding method_tree
method-holds form = λ case seen.
    by-holds (λ leaf. permission.leaf_holds leaf case seen) asked.Header (seen_request case seen) (λ h. refl) (codes ":method") false form
    ∙ there (seen_request case seen) where
      there : (r : Option Request) → text_matches (pattern_holds form) (text_or_absent (option_and_then (header_value (codes ":method")) r))
          ≡ text_matches (pattern_holds form) (text_or_absent (option_map (λ request. request.method) r))
      there None = refl
      there (Some r) = refl

-- a token has no colon, and so is none of the pseudo-headers
plain-name : (name rest : List ℕ) → IsTrue (is_token name) → bytes_eq name (58 ∷ rest) ≡ false
plain-name [] rest token = refl
plain-name (c ∷ cs) rest token = at (nat_eq c 58) refl where
  at : (b : Bool) → nat_eq c 58 ≡ b → bytes_eq (c ∷ cs) (58 ∷ rest) ≡ false
  at false e = ap (λ b. b && bytes_eq cs rest) e
  at true e =
      let token_58 : IsTrue (is_token (58 ∷ cs)) = subst (λ k. IsTrue (is_token (k ∷ cs))) (eqb-true c 58 e) token in
      let wrong : false ≡ true = sym (and-false (nat_le 1 (length (58 ∷ cs)))) ∙ token_58 in
      absurd cc

plain-value : (name : List ℕ) → IsTrue (is_token name) → (r : Request) → header_value name r ≡ value_of name r.headers
plain-value name token r =
    rw (plain-name name (codes "method") token, plain-name name (codes "authority") token, plain-name name (codes "path") token) refl

pub header-holds : (name : List ℕ) (form : Pattern) → IsTrue (is_token name) → HoldsAsHeader (header_tree name form) name form
unfolding header_tree
header-holds name form token = λ case seen.
    by-holds (λ leaf. principal.leaf_holds leaf case seen) asking.Header (seen_request case seen) (λ h. refl) name false form
    ∙ there (seen_request case seen) where
      there : (r : Option Request) → text_matches (pattern_holds form) (text_or_absent (option_and_then (header_value name) r))
          ≡ text_matches (pattern_holds form) (text_or_absent (option_and_then (λ request. value_of name request.headers) r))
      there None = refl
      there (Some r) = ap (λ v. text_matches (pattern_holds form) (text_or_absent v)) (plain-value name token r)
