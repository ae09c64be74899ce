-- Each condition but those on tokens goes to the permission or to the principal, and holds where that does.
use Rattle.std.proofs.Common.{◌≡◌, ◌≢◌, ℕ, Bool, true, false, ◌&&◌, All, IsTrue, List, [], flat_map, get_or, map, ◌∙◌}
use Rattle.std.proofs.Math.Bool.{and-true}
use Rattle.std.specs.List.{list_all}
use Rattle.mesh_text.specs.Token.{is_token}
use Rattle.mesh_net.specs.declared.cidr.Cidr.{Cidr}
use Rattle.mesh_policy.specs.AcceptedRules.{AcceptedCondition}
use Rattle.mesh_policy.specs.Attributes.{Seen, attribute}
use Rattle.mesh_policy.specs.Attributes as key
use Rattle.mesh_policy.specs.Pattern.{pattern_of}
use Rattle.mesh_policy.specs.RuleHolds.{both_hold, condition_holds}
use Rattle.mesh_policy.specs.declared.case.Case.{Case}
use Rattle.mesh_policy.specs.declared.condition.BlockKey.TheVariants.{SourceIp, RemoteIp, DestinationIp}
use Rattle.mesh_policy.specs.declared.condition.Condition.{Condition}
use Rattle.mesh_policy.specs.declared.condition.Condition.TheVariants.{Words, Blocks, Ports}
use Rattle.mesh_policy.specs.declared.condition.TextKey.TheVariants.{SourcePrincipal, SourceNamespace, Sni, Header, AuthPrincipal}
use Rattle.mesh_policy.specs.declared.condition.TextKey.TheVariants.{Audiences, Presenter, Claim}
use Rattle.mesh_policy.proofs.Listed.{left_of}
use Rattle.mesh_tree.specs.Judge.{tree_holds}
use Rattle.mesh_tree.specs.declared.tree.Tree.{Tree}
use Rattle.mesh_tree.proofs.JudgeLemmas.{holds-leaf}
use Rattle.envoy_types.specs.declared.permission.PermissionLeaf.TheVariants as permission
use Rattle.peer_name.specs.Holds.{HasNamedPeer}
use Rattle.str_match.proofs.HeadersHold.{header-holds}
use Rattle.str_match.proofs.ServerNameHolds.{server-name-holds}
use Rattle.authz_gen.specs.Conditions.{both_lists, destination_block, header_of, permission_of, principal_by, server_name_of}
use Rattle.authz_gen.specs.Lists.{all_of, field_of}
use Rattle.authz_gen.specs.Operations.{port_tree}
use Rattle.authz_gen.specs.Policies.{condition_needs_token}
use Rattle.authz_gen.specs.Sources.{namespace_of, principal_of, remote_block, source_block}
use Rattle.authz_gen.proofs.NoEmptyText.{short-written, written-pattern}
use Rattle.authz_gen.proofs.OperationsHold.{by_port, permits, port-matches}
use Rattle.authz_gen.proofs.Sides.{HasSides, sides-hold}
use Rattle.authz_gen.proofs.SourcesHold.{admits, by_block, by_key, namespace-matches, principal-matches}
use Rattle.authz_gen.proofs.SourcesHold.{remote-block-matches, source-block-matches}
use Rattle.authz_gen.proofs.TreeHolds.{HoldsAsMatched, all-holds, field-holds}

-- an accepted condition that isn't on a token
pub record IsPlain (c : Condition) : Type 0 where
  pub accepted : AcceptedCondition c
  pub plain : condition_needs_token c ≡ false

-- both lists of a condition
module _ {L A : Type 0} (p : L → Bool) (tree : A → Tree L) (matches : A → Bool) where
  lists-hold : (xs not_xs : List A) → All (HoldsAsMatched p tree matches) xs → All (HoldsAsMatched p tree matches) not_xs
      → list_all (tree_holds p) (both_lists tree xs not_xs) ≡ both_hold matches xs not_xs
  lists-hold xs not_xs each each_not =
      and-true (tree_holds p (all_of (field_of (map tree xs) (map tree not_xs))))
      ∙ all-holds p (field_of (map tree xs) (map tree not_xs))
      ∙ field-holds p tree matches xs not_xs each each_not

  each-lists-hold : ((x : A) → HoldsAsMatched p tree matches x) → (xs not_xs : List A)
      → list_all (tree_holds p) (both_lists tree xs not_xs) ≡ both_hold matches xs not_xs
  each-lists-hold each xs not_xs = lists-hold xs not_xs (λ k d within. each (get_or xs k d)) (λ k d within. each (get_or not_xs k d))

module _ (case : Case) (seen : Seen) (named : HasNamedPeer case) where
  -- ---- what is asked for

  server-name-matches : (v : List ℕ) → v ≢ []
      → tree_holds (permits case seen) (server_name_of v) ≡ by_key case seen key.server_name v
  server-name-matches v written = server-name-holds (pattern_of v) (written-pattern v written) case seen

  destination-matches : (block : Cidr)
      → tree_holds (permits case seen) (destination_block block) ≡ by_block case seen key.destination_ip block
  destination-matches block = holds-leaf (permits case seen) (permission.DestinationIp block)

  header-matches : (name : List ℕ) → IsTrue (is_token name) → (v : List ℕ)
      → tree_holds (admits case seen) (header_of name v) ≡ by_key case seen (key.header name) v
  header-matches name token v = header-holds name (pattern_of v) token case seen

  -- ---- each condition

  abbrev pub IsHeld : Condition → Type 0
  IsHeld = HasSides (tree_holds (permits case seen)) (tree_holds (admits case seen)) permission_of principal_by (condition_holds case seen)

  condition-held : (c : Condition) → AcceptedCondition c → condition_needs_token c ≡ false → IsHeld c
  unfolding permission_of principal_by
  condition-held (Words Sni values not_values) h none =
      and-true _
      ∙ lists-hold (permits case seen) server_name_of (by_key case seen key.server_name) values not_values
      (λ k d within. server-name-matches (get_or values k d) (short-written (get_or values k d) (h.values.each k d within)))
      (λ k d within. server-name-matches (get_or not_values k d) (short-written (get_or not_values k d) (h.not_values.each k d within)))
  condition-held (Words SourcePrincipal values not_values) h none =
      each-lists-hold (admits case seen) principal_of (by_key case seen key.source_principal)
      (principal-matches case seen named) values not_values
  condition-held (Words SourceNamespace values not_values) h none =
      each-lists-hold (admits case seen) namespace_of (by_key case seen key.source_namespace)
      (namespace-matches case seen named) values not_values
  condition-held (Words (Header name) values not_values) h none =
      each-lists-hold (admits case seen) (header_of name) (by_key case seen (key.header name))
      (header-matches name (left_of _ _ (left_of _ _ (left_of _ _ h.key)))) values not_values
  condition-held (Words AuthPrincipal values not_values) h none = let wrong : true ≡ false = none in absurd cc
  condition-held (Words Audiences values not_values) h none = let wrong : true ≡ false = none in absurd cc
  condition-held (Words Presenter values not_values) h none = let wrong : true ≡ false = none in absurd cc
  condition-held (Words (Claim names) values not_values) h none = let wrong : true ≡ false = none in absurd cc
  condition-held (Blocks DestinationIp values not_values) h none =
      and-true _
      ∙ each-lists-hold (permits case seen) destination_block (by_block case seen key.destination_ip) destination-matches
      values not_values
  condition-held (Blocks SourceIp values not_values) h none =
      each-lists-hold (admits case seen) source_block (by_block case seen key.source_ip)
      (source-block-matches case seen) values not_values
  condition-held (Blocks RemoteIp values not_values) h none =
      each-lists-hold (admits case seen) remote_block (by_block case seen key.remote_ip)
      (remote-block-matches case seen) values not_values
  condition-held (Ports values not_values) h none =
      and-true _ ∙ each-lists-hold (permits case seen) port_tree (by_port case seen) (port-matches case seen) values not_values

  -- ---- all conditions

  pub conditions-hold : (cs : List Condition) → All IsPlain cs
      → (list_all (tree_holds (permits case seen)) (flat_map permission_of cs)
      && list_all (tree_holds (admits case seen)) (flat_map principal_by cs))
      ≡ list_all (condition_holds case seen) cs
  conditions-hold cs each =
      sides-hold (tree_holds (permits case seen)) (tree_holds (admits case seen)) permission_of principal_by (condition_holds case seen) cs
      (λ k d within. condition-held (get_or cs k d) (each k d within).accepted (each k d within).plain)
