-- Why there is no workload of a name in some manifests, with what the refusal keeps. Of several reasons the one with the
-- lowest number counts.
use Rattle.std.specs.Prelude.{ℕ, nat_lt, not, ◌&&◌, ◌++◌, List, [], ◌∷◌, length, map, filter, find, filter_map, flat_map, Option, Some, None, is_some, if◌then◌else◌}
use Rattle.std.specs.List.{list_any}
use Rattle.std.specs.Option.{option_map, option_to_list}
use Rattle.std.specs.Str.{bytes_eq}
use Rattle.mesh_policy.specs.declared.bundle.Bundle.{Bundle}
use Rattle.mesh_policy.specs.declared.condition.Condition.{Condition}
use Rattle.mesh_policy.specs.declared.condition.Condition.TheVariants.{Words, Blocks, Ports}
use Rattle.mesh_policy.specs.declared.condition.TextKey.{TextKey}
use Rattle.mesh_policy.specs.declared.condition.TextKey.TheVariants.{SourcePrincipal, SourceNamespace, Sni, Header, AuthPrincipal, Audiences, Presenter, Claim}
use Rattle.mesh_policy.specs.declared.jwt.JwtRule.{JwtRule}
use Rattle.mesh_policy.specs.declared.jwt.TokenPlace.{TokenPlace}
use Rattle.mesh_policy.specs.declared.jwt.TokenPlace.TheVariants.{Header as InHeader, Param}
use Rattle.mesh_policy.specs.declared.pod.Pod.{Pod}
use Rattle.mesh_policy.specs.declared.policy.Action.TheVariants.{Custom}
use Rattle.mesh_policy.specs.declared.policy.AuthorizationPolicy.{AuthorizationPolicy}
use Rattle.mesh_policy.specs.declared.service.Protocol.{Protocol}
use Rattle.mesh_policy.specs.declared.service.Protocol.TheVariants.{Http, Tcp}
use Rattle.mesh_policy.specs.Applying.{authorization_of}
use Rattle.mesh_policy.specs.Lists.{distinct_texts, first_some, least, text_before}
use Rattle.mesh_policy.specs.Ports.{GivenPort, given, gives_http, gives_tcp, listed}
use Rattle.mesh_policy.specs.Sizes.{Size, is_over_limit, size_of}
use Rattle.mesh_policy.specs.Workload.{jwt_rules_of, policies_of, provider_named}

-- the reasons, in the order of their numbers, with what each keeps
pub data SelectFault : Type 0 where
  -- no Pod has that namespace and name
  no_workload : SelectFault
  -- the least port that Services give two protocols, and the two
  port_conflict : ℕ → Protocol → Protocol → SelectFault
  -- the least name of an authorizer that a CUSTOM policy names and MeshConfig lacks
  unknown_provider : List ℕ → SelectFault
  -- the least two names of authorizers that the CUSTOM policies name
  two_providers : List ℕ → List ℕ → SelectFault
  -- the least name of a header that a condition tests and token filters change
  token_header_tested : List ℕ → SelectFault
  -- how many listed ports there are, which is over 16
  too_many_ports : ℕ → SelectFault
  -- values, entries and bytes, one of which is over its limit
  too_many_values : ℕ → ℕ → ℕ → SelectFault

-- the Pod of that namespace and name
abbrev pub pod_named : List ℕ → List ℕ → Bundle → Option Pod
pod_named namespace name bundle = find (λ pod. bytes_eq pod.namespace namespace && bytes_eq pod.name name) bundle.pods

-- ---- ports

-- the ports that are given as HTTP and as TCP
abbrev pub conflicts_in : List GivenPort → List ℕ
conflicts_in ports = filter (λ port. gives_http ports port && gives_tcp ports port) (map (λ entry. entry.number) ports)

-- a port is given two protocols
abbrev pub port_fault : Bundle → Pod → Option SelectFault
port_fault bundle pod = option_map (λ port. port_conflict port Http Tcp) (least nat_lt (conflicts_in (given bundle pod)))

-- more than 16 ports are listed
abbrev pub number_fault : Bundle → Pod → Option SelectFault
number_fault bundle pod = if nat_lt 16 (length (listed bundle pod)) then Some (too_many_ports (length (listed bundle pod))) else None

-- ---- authorizers

-- the names that the CUSTOM policies write
abbrev pub providers_of : Bundle → Pod → List (List ℕ)
providers_of bundle pod = filter_map (λ policy. policy.provider) (policies_of Custom bundle pod)

-- a name that MeshConfig has no authorizer for
abbrev pub unknown_fault : Bundle → Pod → Option SelectFault
unknown_fault bundle pod = option_map unknown_provider (least text_before
    (filter (λ name. not (is_some (provider_named bundle name))) (providers_of bundle pod)))

-- the first two of some names
abbrev pub two_of : List (List ℕ) → Option SelectFault
two_of [] = None
two_of (name ∷ []) = None
two_of (name ∷ (other ∷ names)) = Some (two_providers name other)

-- more than one name
abbrev pub second_fault : Bundle → Pod → Option SelectFault
second_fault bundle pod = two_of (distinct_texts (providers_of bundle pod))

-- ---- headers, whose names are kept in lower case

-- the header of a key, if it is one
abbrev pub header_in : TextKey → List (List ℕ)
header_in SourcePrincipal = []
header_in SourceNamespace = []
header_in Sni = []
header_in (Header name) = name ∷ []
header_in AuthPrincipal = []
header_in Audiences = []
header_in Presenter = []
header_in (Claim names) = []

-- the header that a condition tests, if it tests one
abbrev pub headers_of_condition : Condition → List (List ℕ)
headers_of_condition (Words key values not_values) = header_in key
headers_of_condition (Blocks key values not_values) = []
headers_of_condition (Ports values not_values) = []

-- the headers that the conditions of policies test
abbrev pub tested_headers : List AuthorizationPolicy → List (List ℕ)
tested_headers policies = flat_map (λ policy. flat_map (λ rule. flat_map headers_of_condition rule.conditions) policy.rules) policies

-- the header that a token stands in, if it stands in one
abbrev pub headers_of_place : TokenPlace → List (List ℕ)
headers_of_place (InHeader name prefix) = name ∷ []
headers_of_place (Param name) = []

-- A rule takes its token away unless it forwards it, and may set a header to the payload.
abbrev pub changed_headers : List JwtRule → List (List ℕ)
changed_headers rules = flat_map
    (λ rule. (if rule.forward then [] else flat_map headers_of_place rule.places) ++ option_to_list rule.payload_header) rules

-- a tested header is one that token filters change
abbrev pub header_fault : Bundle → Pod → Option SelectFault
header_fault bundle pod = option_map token_header_tested (least text_before
    (filter (λ name. list_any (bytes_eq name) (changed_headers (jwt_rules_of bundle pod))) (tested_headers (authorization_of bundle pod))))

-- ---- limits

-- one of the three numbers is over its limit
abbrev pub fault_of_size : Size → Option SelectFault
fault_of_size size = if is_over_limit size then Some (too_many_values size.values size.entries size.bytes) else None

-- the policies that apply, of all actions, and the rules for tokens hold too much
abbrev pub size_fault : Bundle → Pod → Option SelectFault
size_fault bundle pod = fault_of_size (size_of (authorization_of bundle pod) (jwt_rules_of bundle pod))

-- ---- the first of them

-- the first reason for a Pod, if it is there
abbrev pub fault_for : Bundle → Option Pod → Option SelectFault
fault_for bundle None = Some no_workload
fault_for bundle (Some pod) =
    first_some (port_fault bundle pod ∷ unknown_fault bundle pod ∷ second_fault bundle pod ∷ header_fault bundle pod
    ∷ number_fault bundle pod ∷ size_fault bundle pod ∷ [])

-- why there is no workload of a namespace and name, if there is none
unfoldable pub select_fault : Bundle → List ℕ → List ℕ → Option SelectFault
select_fault bundle namespace name = fault_for bundle (pod_named namespace name bundle)
