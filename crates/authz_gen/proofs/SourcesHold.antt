-- The principal of a source holds exactly where the source does, of a peer whose name is well-formed.
use Rattle.std.proofs.Common.{◌≡◌, ℕ, Bool, true, false, not, ◌&&◌, ◌||◌, List, [], ◌∷◌, ◌++◌, length, map, refl, sym, ◌∙◌, ap}
use Rattle.std.proofs.Math.Bool.{and-true}
use Rattle.std.proofs.Math.Dec.{eqb-suc-zero}
use Rattle.mesh_net.specs.declared.cidr.Cidr.{Cidr}
use Rattle.mesh_policy.specs.Attributes.{Seen, attribute}
use Rattle.mesh_policy.specs.Attributes as key
use Rattle.mesh_policy.specs.Pattern.{pattern_of}
use Rattle.mesh_policy.specs.RuleHolds.{block_matches, both_hold, is_written, source_holds, source_needs_http, value_matches}
use Rattle.mesh_policy.specs.declared.case.Case.{Case}
use Rattle.mesh_policy.specs.declared.policy.SourceSpec.{SourceSpec}
use Rattle.mesh_tree.specs.Judge.{tree_holds}
use Rattle.mesh_tree.proofs.JudgeLemmas.{holds-leaf}
use Rattle.envoy_types.specs.Principal.{leaf_holds}
use Rattle.envoy_types.specs.declared.principal.PrincipalLeaf.{PrincipalLeaf}
use Rattle.envoy_types.specs.declared.principal.PrincipalLeaf.TheVariants.{DirectRemoteIp, RemoteIp}
use Rattle.peer_name.proofs.NamespaceHolds.{namespace-holds}
use Rattle.peer_name.proofs.PrincipalHolds.{principal-holds}
use Rattle.peer_name.specs.Holds.{HasNamedPeer}
use Rattle.authz_gen.specs.Lists.{field_of}
use Rattle.authz_gen.specs.Sources.{namespace_of, principal_of, remote_block, source_block, source_tree}
use Rattle.authz_gen.proofs.TreeHolds.{all-holds, each-field-holds, four-lists}

-- lists without an entry hold
unwritten : {A : Type 0} (matches : A → Bool) (xs not_xs : List A) → (is_written xs || is_written not_xs) ≡ false
    → both_hold matches xs not_xs ≡ true
unwritten matches [] [] none = refl
unwritten matches [] (y ∷ ys) none =
    let wrong : true ≡ false = sym (ap not (eqb-suc-zero (length ys))) ∙ none in
    absurd cc
unwritten matches (x ∷ xs) not_xs none =
    let wrong : true ≡ false = sym (ap (λ b. not b || is_written not_xs) (eqb-suc-zero (length xs))) ∙ none in
    absurd cc

-- the fields of a source, and one that holds beside them
fields : (a r b c d : Bool) → r ≡ true → (a && b && c && d) ≡ (a && r && b && c && d)
fields a r b c d holds = ap (λ x. x && b && c && d) (sym (and-true a) ∙ ap (λ x. a && x) (sym holds))

module _ (case : Case) (seen : Seen) where
  abbrev pub admits : PrincipalLeaf → Bool
  admits leaf = leaf_holds leaf case seen

  -- a match value by the attribute of a key
  abbrev pub by_key : key.Key → List ℕ → Bool
  by_key name = value_matches (attribute case seen name)

  -- a block by it
  abbrev pub by_block : key.Key → Cidr → Bool
  by_block name = block_matches (attribute case seen name)

  -- ---- values

  pub principal-matches : HasNamedPeer case → (v : List ℕ) → tree_holds admits (principal_of v) ≡ by_key key.source_principal v
  principal-matches named v = principal-holds (pattern_of v) case seen named

  pub namespace-matches : HasNamedPeer case → (v : List ℕ) → tree_holds admits (namespace_of v) ≡ by_key key.source_namespace v
  namespace-matches named v = namespace-holds (pattern_of v) case seen named

  pub source-block-matches : (block : Cidr) → tree_holds admits (source_block block) ≡ by_block key.source_ip block
  source-block-matches block = holds-leaf admits (DirectRemoteIp block)

  pub remote-block-matches : (block : Cidr) → tree_holds admits (remote_block block) ≡ by_block key.remote_ip block
  remote-block-matches block = holds-leaf admits (RemoteIp block)

  -- ---- sources

  -- one that asks for no request principal
  pub source-holds : HasNamedPeer case → (s : SourceSpec) → source_needs_http s ≡ false
      → tree_holds admits (source_tree s) ≡ source_holds case seen s
  unfolding source_tree
  source-holds named s none =
      let principals = field_of (map principal_of s.principals) (map principal_of s.not_principals) in
      let namespaces = field_of (map namespace_of s.namespaces) (map namespace_of s.not_namespaces) in
      let blocks = field_of (map source_block s.ip_blocks) (map source_block s.not_ip_blocks) in
      let remote = field_of (map remote_block s.remote_ip_blocks) (map remote_block s.not_remote_ip_blocks) in
      all-holds admits (principals ++ namespaces ++ blocks ++ remote)
      ∙ four-lists (tree_holds admits) principals namespaces blocks remote _ _ _ _
      (each-field-holds admits principal_of (by_key key.source_principal) (principal-matches named) s.principals s.not_principals)
      (each-field-holds admits namespace_of (by_key key.source_namespace) (namespace-matches named) s.namespaces s.not_namespaces)
      (each-field-holds admits source_block (by_block key.source_ip) source-block-matches s.ip_blocks s.not_ip_blocks)
      (each-field-holds admits remote_block (by_block key.remote_ip) remote-block-matches s.remote_ip_blocks s.not_remote_ip_blocks)
      ∙ fields (both_hold (by_key key.source_principal) s.principals s.not_principals)
      (both_hold (by_key key.request_principal) s.request_principals s.not_request_principals)
      (both_hold (by_key key.source_namespace) s.namespaces s.not_namespaces)
      (both_hold (by_block key.source_ip) s.ip_blocks s.not_ip_blocks)
      (both_hold (by_block key.remote_ip) s.remote_ip_blocks s.not_remote_ip_blocks)
      (unwritten (by_key key.request_principal) s.request_principals s.not_request_principals none)
