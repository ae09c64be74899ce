-- What the values of manifests have to be, each as a test of the value alone (Istio reference, "Authorization Policy",
-- RequestAuthentication; Kubernetes API reference, ContainerPort).
use Rattle.std.specs.Prelude.{ℕ, ◌^◌, ◌==◌, Bool, ◌&&◌, ◌||◌, not, nat_le, nat_lt, List, length, codes, count_by, map, Option, is_some}
use Rattle.std.specs.Char.{to_ascii_lowercase}
use Rattle.std.specs.List.{list_all}
use Rattle.mesh_net.specs.declared.address.IpAddr.{IpAddr}
use Rattle.mesh_net.specs.declared.address.IpAddr.TheVariants.{V4, V6}
use Rattle.mesh_net.specs.declared.cidr.Cidr.{Cidr}
use Rattle.mesh_policy.specs.Template.{is_template}
use Rattle.mesh_policy.specs.declared.policy.Action.{Action}
use Rattle.mesh_policy.specs.declared.policy.Action.TheVariants as action
use Rattle.mesh_text.specs.Bytes.{close_bracket, open_bracket, slash, upper_a, upper_z}
use Rattle.mesh_text.specs.Parts.{is_part}
use Rattle.mesh_text.specs.Token.{is_token}

-- ---- lengths

-- at most 1,024 bytes
abbrev pub is_bounded : List ℕ → Bool
is_bounded t = nat_le (length t) 1024

-- and at least one
abbrev pub is_short : List ℕ → Bool
is_short t = nat_le 1 (length t) && is_bounded t

-- an inline key set (RFC 7517, section 5) of at most 16,384 bytes
abbrev pub is_key_set : List ℕ → Bool
is_key_set t = nat_le (length t) 16384

-- ---- names

-- a token (RFC 9110, section 5.6.2) of at most 1,024 bytes
abbrev pub is_name : List ℕ → Bool
is_name t = is_token t && is_bounded t

-- names of header fields are kept in lower case, since they compare without regard to it (RFC 9110, section 5.1)
abbrev pub lowered : List ℕ → List ℕ
lowered t = map to_ascii_lowercase t

-- A to Z
abbrev pub is_upper : ℕ → Bool
is_upper c = nat_le upper_a c && nat_le c upper_z

abbrev pub is_lower_name : List ℕ → Bool
is_lower_name t = is_name t && list_all (λ c. not (is_upper c)) t

-- the name of a claim, as brackets hold it: not empty, and without `[` and `]`
abbrev pub is_claim_name : List ℕ → Bool
is_claim_name t = nat_le 1 (length t) && list_all (λ c. not ((c == open_bracket) || (c == close_bracket))) t

-- ---- numbers

-- a port from 1 to 65,535
abbrev pub is_port : ℕ → Bool
is_port n = nat_le 1 n && nat_le n 65535

-- ---- match values

-- at most 8 slashes
abbrev pub has_few_slashes : List ℕ → Bool
has_few_slashes t = nat_le (count_by (λ c. c == slash) t) 8

-- a value of `requestPrincipals`: issuer and subject of a token, joined by a slash
abbrev pub is_request_principal : List ℕ → Bool
is_request_principal t = is_short t && has_few_slashes t

-- `{*}` or `{**}` stands in it
abbrev pub has_operator : List ℕ → Bool
has_operator t = is_part (codes "{*}") t || is_part (codes "{**}") t

-- a path with an operator has to be a template; any other is a plain pattern, whatever braces it holds
abbrev pub is_path : List ℕ → Bool
is_path t = not (has_operator t) || is_template t

abbrev pub is_path_value : List ℕ → Bool
is_path_value t = is_short t && is_path t

-- ---- addresses

-- the bits of its family hold the address
abbrev pub is_address : IpAddr → Bool
is_address (V4 n) = nat_lt n (2 ^ 32)
is_address (V6 n) = nat_lt n (2 ^ 128)

-- the same of a block; that the length fits is part of what a block is
abbrev pub is_block : Cidr → Bool
is_block block = is_address block.addr

-- ---- action and provider

-- a provider exactly where the action is CUSTOM
abbrev pub belongs : Action → Option (List ℕ) → Bool
belongs action.Allow provider = not (is_some provider)
belongs action.Deny provider = not (is_some provider)
belongs action.Audit provider = not (is_some provider)
belongs action.Custom provider = is_some provider
