-- The JSON of what a chain does: the TCP proxy with the filters before it, or the connection manager with its own (Envoy v3
-- API reference, `extensions.filters.network.tcp_proxy.v3.TcpProxy`,
-- `extensions.filters.network.http_connection_manager.v3.HttpConnectionManager` and `config.route.v3`).
use Rattle.std.specs.Prelude.{ℕ, ◌+◌, Bool, false, ◌&&◌, ◌||◌, nat_le, List, [], ◌∷◌, ◌++◌, length, map, if◌then◌else◌}
use Rattle.std.specs.List.{list_all}
use Rattle.serde_json.specs.Data.{Data, array, string, Items, no_items, item}
use Rattle.serde_json.specs.View.{items_of as items}
use Rattle.mesh_doc.specs.Faults.{Check, ◌⨾◌, ◌▸◌, demands}
use Rattle.mesh_doc.specs.Fields.{strict, required_written, required_written_in}
use Rattle.mesh_doc.specs.Kinds.{items_of, text_faults, text_in}
use Rattle.mesh_doc.specs.declared.reason.Reason.TheVariants as reason
use Rattle.envoy_types.specs.AuthzForms.{authz_in, http_authz_faults, http_authz_is_printable, http_authz_written}
use Rattle.envoy_types.specs.AuthzForms.{network_authz_faults, network_authz_is_printable, network_authz_written}
use Rattle.envoy_types.specs.JwtForms.{jwt_faults, jwt_in, jwt_is_printable, jwt_written}
use Rattle.envoy_types.specs.RbacForms.{http_rbac_faults, http_rbac_written, network_rbac_faults, network_rbac_written}
use Rattle.envoy_types.specs.RbacForms.{rbac_in, rbac_is_printable}
use Rattle.envoy_types.specs.SmallForms.{config_in, ending_with, fixed_faults, front_in, front_of, given, is_named, items_all}
use Rattle.envoy_types.specs.SmallForms.{last_in, last_of, most_entries, named_faults, plain_config_faults, short_list_faults}
use Rattle.envoy_types.specs.SmallForms.{sole_list, type_faults}
use Rattle.envoy_types.specs.WrittenFields.{config_written, field, named_written, object_of, sole_field}
use Rattle.envoy_types.specs.declared.chains.ChainBody.{ChainBody}
use Rattle.envoy_types.specs.declared.chains.ChainBody.TheVariants.{Tcp, Http}
use Rattle.envoy_types.specs.declared.chains.HttpFilter.{HttpFilter}
use Rattle.envoy_types.specs.declared.chains.HttpFilter.TheVariants as http
use Rattle.envoy_types.specs.declared.chains.NetworkFilter.{NetworkFilter}
use Rattle.envoy_types.specs.declared.chains.NetworkFilter.TheVariants as network
use Rattle.envoy_types.specs.declared.fixed.TheConstants.{ALL_DOMAINS, ALL_PATHS, INBOUND_HOST}
use Rattle.envoy_types.specs.declared.keys.TheConstants.{CLUSTER, DOMAINS, HTTP_FILTERS, MATCH, NAME, PREFIX, ROUTE, ROUTES}
use Rattle.envoy_types.specs.declared.keys.TheConstants.{ROUTE_CONFIG, STAT_PREFIX, TYPE, VIRTUAL_HOSTS}
use Rattle.envoy_types.specs.declared.names.TheConstants.{HTTP_AUTHZ_NAME, HTTP_MANAGER_NAME, HTTP_MANAGER_TYPE, HTTP_RBAC_NAME}
use Rattle.envoy_types.specs.declared.names.TheConstants.{JWT_NAME, NETWORK_AUTHZ_NAME, NETWORK_RBAC_NAME, ROUTER_NAME, ROUTER_TYPE}
use Rattle.envoy_types.specs.declared.names.TheConstants.{TCP_PROXY_NAME, TCP_PROXY_TYPE}

-- ---- the TCP proxy

-- `TcpProxy`, whose cluster is its prefix of statistics too
unfoldable pub proxy_config_faults : Check
proxy_config_faults =
    strict (TYPE.now ∷ CLUSTER.now ∷ STAT_PREFIX.now ∷ [])
    (type_faults TCP_PROXY_TYPE.now
    ⨾ required_written CLUSTER.now text_faults
    ⨾ given (λ d. required_written STAT_PREFIX.now (fixed_faults (required_written_in CLUSTER.now text_in d))))

-- `TcpProxy` under its name
abbrev pub proxy_faults : Check
proxy_faults = named_faults TCP_PROXY_NAME.now proxy_config_faults

-- its cluster
unfoldable pub proxy_in : Data → List ℕ
proxy_in = config_in (required_written_in CLUSTER.now text_in)

-- a TCP proxy to this cluster
unfoldable pub proxy_written : List ℕ → Data
proxy_written cluster = named_written TCP_PROXY_NAME.now (config_written TCP_PROXY_TYPE.now
    (field CLUSTER.now (string cluster)
    ∷ field STAT_PREFIX.now (string cluster)
    ∷ []))

-- ---- network filters before it

-- by its name
unfoldable pub network_filter_faults : Check
network_filter_faults d = (if is_named NETWORK_RBAC_NAME.now d then network_rbac_faults else network_authz_faults) d

-- the filter of the kind that its name says
unfoldable pub network_filter_in : Data → NetworkFilter
network_filter_in d = if is_named NETWORK_RBAC_NAME.now d then network.Rbac (rbac_in d) else network.ExtAuthz (authz_in d)

-- with the configuration of its kind
unfoldable pub network_filter_written : NetworkFilter → Data
network_filter_written (network.Rbac rbac) = network_rbac_written rbac
network_filter_written (network.ExtAuthz authz) = network_authz_written authz

-- what its kind asks
unfoldable pub network_filter_is_printable : NetworkFilter → Bool
network_filter_is_printable (network.Rbac rbac) = rbac_is_printable rbac
network_filter_is_printable (network.ExtAuthz authz) = network_authz_is_printable authz

-- ---- HTTP filters before the router

-- by its name
unfoldable pub http_filter_faults : Check
http_filter_faults d =
    (if is_named HTTP_RBAC_NAME.now d then http_rbac_faults
    else if is_named HTTP_AUTHZ_NAME.now d then http_authz_faults
    else jwt_faults) d

-- the filter of the kind that its name says
unfoldable pub http_filter_in : Data → HttpFilter
http_filter_in d =
    if is_named HTTP_RBAC_NAME.now d then http.Rbac (rbac_in d)
    else if is_named HTTP_AUTHZ_NAME.now d then http.ExtAuthz (authz_in d)
    else http.Jwt (jwt_in d)

-- with the configuration of its kind
unfoldable pub http_filter_written : HttpFilter → Data
http_filter_written (http.Jwt jwt) = jwt_written jwt
http_filter_written (http.Rbac rbac) = http_rbac_written rbac
http_filter_written (http.ExtAuthz authz) = http_authz_written authz

-- what its kind asks
unfoldable pub http_filter_is_printable : HttpFilter → Bool
http_filter_is_printable (http.Jwt jwt) = jwt_is_printable jwt
http_filter_is_printable (http.Rbac rbac) = rbac_is_printable rbac
http_filter_is_printable (http.ExtAuthz authz) = http_authz_is_printable authz

-- `Router` under its name, which has no field
unfoldable pub router_faults : Check
router_faults = named_faults ROUTER_NAME.now (plain_config_faults ROUTER_TYPE.now)

-- the router
unfoldable pub router_written : Data
router_written = named_written ROUTER_NAME.now (config_written ROUTER_TYPE.now [])

-- one of the three before the router
abbrev pub is_http_filter : Data → Bool
is_http_filter d = is_named HTTP_RBAC_NAME.now d || is_named HTTP_AUTHZ_NAME.now d || is_named JWT_NAME.now d

-- such filters, and then the router, which stands last and only there
unfoldable pub are_http_filters : Items → Bool
are_http_filters ds = items_all is_http_filter (front_of ds) && is_named ROUTER_NAME.now (last_of ds)

-- of a list of other kinds nothing is read
unfoldable pub http_filters_faults : Check
http_filters_faults =
    short_list_faults most_entries
    ▸ demands (λ d. are_http_filters (items_of d)) reason.BadForm
    ▸ ending_with http_filter_faults router_faults

-- ---- routes, each text being this one name

-- `RouteMatch`: every path
unfoldable pub route_match_faults : Check
route_match_faults = strict (PREFIX.now ∷ []) (required_written PREFIX.now (fixed_faults ALL_PATHS.now))

-- `RouteAction`
unfoldable pub route_action_faults : List ℕ → Check
route_action_faults name = strict (CLUSTER.now ∷ []) (required_written CLUSTER.now (fixed_faults name))

-- `Route`
unfoldable pub route_faults : List ℕ → Check
route_faults name =
    strict (MATCH.now ∷ ROUTE.now ∷ [])
    (required_written MATCH.now route_match_faults
    ⨾ required_written ROUTE.now (route_action_faults name))

-- `VirtualHost`
unfoldable pub virtual_host_faults : List ℕ → Check
virtual_host_faults name =
    strict (DOMAINS.now ∷ NAME.now ∷ ROUTES.now ∷ [])
    (required_written DOMAINS.now (sole_list (fixed_faults ALL_DOMAINS.now))
    ⨾ required_written NAME.now (fixed_faults INBOUND_HOST.now)
    ⨾ required_written ROUTES.now (sole_list (route_faults name)))

-- `RouteConfiguration`: the cluster of its route has its name
unfoldable pub route_config_faults : Check
route_config_faults =
    strict (NAME.now ∷ VIRTUAL_HOSTS.now ∷ [])
    (required_written NAME.now text_faults
    ⨾ given (λ d. required_written VIRTUAL_HOSTS.now (sole_list (virtual_host_faults (required_written_in NAME.now text_in d)))))

-- a route of every path to the cluster of this name
unfoldable pub route_written : List ℕ → Data
route_written name = object_of
    (field MATCH.now (sole_field PREFIX.now (string ALL_PATHS.now))
    ∷ field ROUTE.now (sole_field CLUSTER.now (string name))
    ∷ [])

-- the host of every authority, with that route
unfoldable pub virtual_host_written : List ℕ → Data
virtual_host_written name = object_of
    (field DOMAINS.now (array (items (string ALL_DOMAINS.now ∷ [])))
    ∷ field NAME.now (string INBOUND_HOST.now)
    ∷ field ROUTES.now (array (items (route_written name ∷ [])))
    ∷ [])

-- a route configuration of this name, with that host
unfoldable pub route_config_written : List ℕ → Data
route_config_written name = object_of
    (field NAME.now (string name)
    ∷ field VIRTUAL_HOSTS.now (array (items (virtual_host_written name ∷ [])))
    ∷ [])

-- ---- the connection manager

-- the name of its routes
abbrev pub route_name_in : Data → List ℕ
route_name_in d = required_written_in ROUTE_CONFIG.now (required_written_in NAME.now text_in) d

-- `HttpConnectionManager`, whose prefix of statistics is the name of its routes too
unfoldable pub manager_config_faults : Check
manager_config_faults =
    strict (TYPE.now ∷ HTTP_FILTERS.now ∷ ROUTE_CONFIG.now ∷ STAT_PREFIX.now ∷ [])
    (type_faults HTTP_MANAGER_TYPE.now
    ⨾ required_written HTTP_FILTERS.now http_filters_faults
    ⨾ required_written ROUTE_CONFIG.now route_config_faults
    ⨾ given (λ d. required_written STAT_PREFIX.now (fixed_faults (route_name_in d))))

-- `HttpConnectionManager` under its name
abbrev pub manager_faults : Check
manager_faults = named_faults HTTP_MANAGER_NAME.now manager_config_faults

-- its filters before the router, and the cluster, which is the name of its routes
unfoldable pub manager_config_in : Data → ChainBody
manager_config_in d = Http (required_written_in HTTP_FILTERS.now (front_in http_filter_in) d) (route_name_in d)

-- of the filter
unfoldable pub manager_in : Data → ChainBody
manager_in = config_in manager_config_in

-- the filters, and the router behind them
abbrev pub http_filters_written : List HttpFilter → Data
http_filters_written filters = array (items (map http_filter_written filters ++ router_written ∷ []))

-- a connection manager with these filters, whose routes, cluster and statistics have one name
unfoldable pub manager_written : List HttpFilter → List ℕ → Data
manager_written filters cluster = named_written HTTP_MANAGER_NAME.now (config_written HTTP_MANAGER_TYPE.now
    (field HTTP_FILTERS.now (http_filters_written filters)
    ∷ field ROUTE_CONFIG.now (route_config_written cluster)
    ∷ field STAT_PREFIX.now (string cluster)
    ∷ []))

-- ---- `filters` of a chain

-- a network filter that may stand before the proxy
abbrev pub is_network_filter : Data → Bool
is_network_filter d = is_named NETWORK_RBAC_NAME.now d || is_named NETWORK_AUTHZ_NAME.now d

-- such filters, and then the proxy
unfoldable pub are_tcp_filters : Items → Bool
are_tcp_filters ds = items_all is_network_filter (front_of ds) && is_named TCP_PROXY_NAME.now (last_of ds)

-- one connection manager alone
abbrev pub is_manager : Items → Bool
is_manager no_items = false
is_manager (item d no_items) = is_named HTTP_MANAGER_NAME.now d
is_manager (item d (item e ds)) = false

-- the manager, or what ends with the proxy
unfoldable pub body_entries_faults : Check
body_entries_faults d =
    (if is_manager (items_of d) then sole_list manager_faults else ending_with network_filter_faults proxy_faults) d

-- of a list of other kinds nothing is read
unfoldable pub body_faults : Check
body_faults =
    short_list_faults most_entries
    ▸ demands (λ d. is_manager (items_of d) || are_tcp_filters (items_of d)) reason.BadForm
    ▸ body_entries_faults

-- the connection manager, or the proxy with the filters before it
unfoldable pub body_in : Data → ChainBody
body_in d = if is_manager (items_of d) then last_in manager_in d else Tcp (front_in network_filter_in d) (last_in proxy_in d)

-- the filters with the proxy behind them, or the connection manager alone
unfoldable pub body_written : ChainBody → Data
body_written (Tcp filters cluster) = array (items (map network_filter_written filters ++ proxy_written cluster ∷ []))
body_written (Http filters cluster) = array (items (manager_written filters cluster ∷ []))

-- the proxy, or the router, is an entry too
abbrev pub filters_are_printable : {F : Type 0} → (F → Bool) → List F → Bool
filters_are_printable test filters = nat_le (length filters + 1) most_entries && list_all test filters

-- each filter can be written, and their list with its last entry is within the limit of lists
unfoldable pub body_is_printable : ChainBody → Bool
body_is_printable (Tcp filters cluster) = filters_are_printable network_filter_is_printable filters
body_is_printable (Http filters cluster) = filters_are_printable http_filter_is_printable filters
