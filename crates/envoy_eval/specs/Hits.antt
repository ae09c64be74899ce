-- Which policies the rules of filters hit, stage by stage (Envoy reference, "Role Based Access Control (RBAC) Filter": shadow
-- rules, and the actions ALLOW, DENY and LOG).
use Rattle.std.specs.Prelude.{ℕ, Bool, codes, Option, Some, None, if◌then◌else◌}
use Rattle.std.specs.List.{slice_get}
use Rattle.std.specs.Option.{option_map, option_or}
use Rattle.mesh_text.specs.Parts.{is_prefix}
use Rattle.mesh_policy.specs.Attributes.{Seen}
use Rattle.mesh_policy.specs.declared.case.Case.{Case}
use Rattle.envoy_types.specs.Access.{Rules, effective}
use Rattle.envoy_types.specs.State.{holds_of}
use Rattle.envoy_types.specs.declared.access.Rbac.{Rbac}
use Rattle.envoy_types.specs.declared.access.RbacAction.{RbacAction}
use Rattle.envoy_types.specs.declared.access.RbacAction.TheVariants.{Allow, Deny, Log}
use Rattle.envoy_eval.specs.declared.hits.Hit.{Hit}
use Rattle.envoy_eval.specs.declared.hits.StageHits.{StageHits}

-- no hit of any stage
abbrev pub no_hits : StageHits
no_hits = record { custom = None; audit = None; deny = None; allow = None }

-- of two hits of a stage the first
abbrev pub first_hits : StageHits → StageHits → StageHits
first_hits first later = record {
  custom = option_or first.custom later.custom;
  audit = option_or first.audit later.audit;
  deny = option_or first.deny later.deny;
  allow = option_or first.allow later.allow;
}

-- the hit of the policy at a position, in the filter that stands there in its chain
abbrev pub hit_at : ℕ → Option ℕ → Option Hit
hit_at at position = option_map (λ policy. record { filter = at; policy = policy }) position

-- the policy that rules come down to, where there are rules and one holds
abbrev pub held : Option Rules → Case → Seen → Option ℕ
held None case seen = None
held (Some rules) case seen = effective rules case seen

-- the policy has the front of the names by which Istio sends requests to an external authorizer
abbrev pub names_authorizer : Rules → ℕ → Bool
names_authorizer rules position =
    holds_of (λ policy. is_prefix (codes "istio-ext-authz-") policy.name) (slice_get rules.policies position)

-- a policy with such a name is no hit of DENY
abbrev pub own_position : Rules → Option ℕ → Option ℕ
own_position rules None = None
own_position rules (Some position) = if names_authorizer rules position then None else Some position

-- the hit of shadow rules alone
abbrev pub hits_of_shadow : Option Hit → StageHits
hits_of_shadow custom = record { custom = custom; audit = None; deny = None; allow = None }

-- beside it, the rules' policy that holds is a hit of the stage of their action
abbrev pub hits_of_action : RbacAction → ℕ → Rules → Option ℕ → Option Hit → StageHits
hits_of_action Allow at rules position custom = record { custom = custom; audit = None; deny = None; allow = hit_at at position }
hits_of_action Deny at rules position custom =
    record { custom = custom; audit = None; deny = hit_at at (own_position rules position); allow = None }
hits_of_action Log at rules position custom = record { custom = custom; audit = hit_at at position; deny = None; allow = None }

-- rules that are absent have no hit
abbrev pub hits_of_rules : ℕ → Option Rules → Case → Seen → Option Hit → StageHits
hits_of_rules at None case seen custom = hits_of_shadow custom
hits_of_rules at (Some rules) case seen custom = hits_of_action rules.action at rules (effective rules case seen) custom

-- the hits of a filter: that of its shadow rules, and that of its rules
abbrev pub hits_of_rbac : ℕ → Case → Rbac → Seen → StageHits
hits_of_rbac at case rbac seen = hits_of_rules at rbac.rules case seen (hit_at at (held rbac.shadow case seen))
