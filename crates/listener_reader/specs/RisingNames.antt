-- What the types of a listener keep, told of the whole listener: policies and providers stand in byte order of distinct names.
use Rattle.std.specs.Prelude.{◌≡◌, Bool, true, ◌&&◌, List, Option, Some, None}
use Rattle.std.specs.List.{list_all}
use Rattle.serde_json.specs.Data.{Data}
use Rattle.envoy_types.specs.Access.{Rules}
use Rattle.envoy_types.specs.Jwt.{Authentication}
use Rattle.envoy_types.specs.ListenerForms.{Spells, is_printable}
use Rattle.envoy_types.specs.Order.{names_rise}
use Rattle.envoy_types.specs.declared.access.Rbac.{Rbac}
use Rattle.envoy_types.specs.declared.chains.ChainBody.{ChainBody}
use Rattle.envoy_types.specs.declared.chains.ChainBody.TheVariants.{Tcp, Http}
use Rattle.envoy_types.specs.declared.chains.FilterChain.{FilterChain}
use Rattle.envoy_types.specs.declared.chains.Listener.{Listener}
use Rattle.envoy_types.specs.declared.chains.HttpFilter.{HttpFilter}
use Rattle.envoy_types.specs.declared.chains.HttpFilter.TheVariants as http
use Rattle.envoy_types.specs.declared.chains.NetworkFilter.{NetworkFilter}
use Rattle.envoy_types.specs.declared.chains.NetworkFilter.TheVariants as network

-- those of policies
abbrev pub rules_rise : Rules → Bool
rules_rise rules = names_rise (λ policy. policy.name) rules.policies

-- absent rules have none
abbrev pub optional_rules_rise : Option Rules → Bool
optional_rules_rise None = true
optional_rules_rise (Some rules) = rules_rise rules

-- those of both kinds of rules
unfoldable pub rbac_rises : Rbac → Bool
rbac_rises rbac = optional_rules_rise rbac.rules && optional_rules_rise rbac.shadow

-- those of providers
unfoldable pub jwt_rises : Authentication → Bool
jwt_rises jwt = names_rise (λ provider. provider.name) jwt.providers

-- of a network filter
unfoldable pub network_filter_rises : NetworkFilter → Bool
network_filter_rises (network.Rbac rbac) = rbac_rises rbac
network_filter_rises (network.ExtAuthz authz) = true

-- of an HTTP filter
unfoldable pub http_filter_rises : HttpFilter → Bool
http_filter_rises (http.Jwt jwt) = jwt_rises jwt
http_filter_rises (http.Rbac rbac) = rbac_rises rbac
http_filter_rises (http.ExtAuthz authz) = true

-- of all filters
unfoldable pub body_rises : ChainBody → Bool
body_rises (Tcp filters cluster) = list_all network_filter_rises filters
body_rises (Http filters cluster) = list_all http_filter_rises filters

-- of all chains
unfoldable pub chains_rise : List FilterChain → Bool
chains_rise chains = list_all (λ chain. body_rises chain.body) chains

-- what a value spells can be written
abbrev pub ReadCanBeWritten : Type 0
ReadCanBeWritten = (d : Data) (listener : Listener) → Spells d listener → chains_rise listener.chains ≡ true
    → is_printable listener ≡ true
