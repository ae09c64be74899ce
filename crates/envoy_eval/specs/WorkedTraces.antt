-- Small listeners, and what a trace tells of them.
use Rattle.std.specs.Prelude.{ℕ, false, List, [], ◌∷◌, codes, Option, Some, None}
use Rattle.mesh_policy.specs.declared.verdict.Outcome.TheVariants.{Closed}
use Rattle.mesh_policy.specs.declared.verdict.Verdict.{Verdict}
use Rattle.mesh_tree.specs.Tree.{tree_of}
use Rattle.mesh_tree.specs.declared.tree.Node.TheVariants as node
use Rattle.envoy_types.specs.Access.{Rules}
use Rattle.envoy_types.specs.ListenerVerdict.{unmarked}
use Rattle.envoy_types.specs.WorkedListeners as worked
use Rattle.envoy_types.specs.declared.access.RbacAction.TheVariants.{Deny}
use Rattle.envoy_types.specs.declared.chains.HttpFilter.{HttpFilter}
use Rattle.envoy_eval.specs.Trace.{trace_of}
use Rattle.envoy_eval.specs.declared.hits.Hit.{Hit}
use Rattle.envoy_eval.specs.declared.hits.Hits.{Hits}

-- the trace of a request through an HTTP chain with these filters
abbrev pub http : List HttpFilter → Hits
http filters = trace_of (worked.listener (worked.chain None None [] false (worked.http filters) ∷ [])) worked.get

-- the first policy of a filter
abbrev pub at : ℕ → Hit
at filter = record { filter = filter; policy = 0 }

-- these hits, in the first chain
abbrev pub traced : (custom audit deny allow : Option Hit) → Verdict → Hits
traced custom audit deny allow verdict =
    record { chain = Some 0; custom = custom; audit = audit; deny = deny; allow = allow; verdict = verdict }

-- a connection that no chain is for
abbrev pub closed : Hits
closed = record { chain = None; custom = None; audit = None; deny = None; allow = None; verdict = unmarked Closed }

-- DENY rules whose policy holds for everything, by a name with the front of those that send requests to an authorizer
abbrev pub for_authorizer : Rules
for_authorizer = record {
  action = Deny;
  policies = record {
    name = codes "istio-ext-authz-x";
    permissions = tree_of node.Any ∷ [];
    principals = tree_of node.Any ∷ [];
  } ∷ [];
}
