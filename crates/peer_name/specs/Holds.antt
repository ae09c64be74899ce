-- What it means that a tree asks the same of a peer as a match value.
use Rattle.std.specs.Prelude.{◌≡◌, IsTrue}
use Rattle.mesh_policy.specs.Attributes.{Key, Seen, attribute}
use Rattle.mesh_policy.specs.Pattern.{pattern_holds}
use Rattle.mesh_policy.specs.RuleHolds.{text_matches}
use Rattle.mesh_policy.specs.WellFormedCase.{has_peer_name, if_there}
use Rattle.mesh_policy.specs.declared.case.Case.{Case}
use Rattle.mesh_policy.specs.declared.pattern.Pattern.{Pattern}
use Rattle.mesh_tree.specs.Judge.{tree_holds}
use Rattle.mesh_tree.specs.declared.tree.Tree.{Tree}
use Rattle.envoy_types.specs.Principal.{leaf_holds}
use Rattle.envoy_types.specs.declared.principal.PrincipalLeaf.{PrincipalLeaf}

-- the peer of the case, if there is one, has a well-formed name
abbrev pub HasNamedPeer : Case → Type 0
HasNamedPeer case = IsTrue (if_there has_peer_name case.tls)

-- The tree holds exactly where the pattern matches the attribute of the key, whatever is seen of the case.
abbrev pub HoldsAs : Tree PrincipalLeaf → Pattern → Key → Type 0
HoldsAs tree pattern key =
    (case : Case) (seen : Seen) → HasNamedPeer case
    → tree_holds (λ leaf. leaf_holds leaf case seen) tree ≡ text_matches (pattern_holds pattern) (attribute case seen key)
