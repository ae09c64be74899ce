-- The value that is written of the listener that is built is nested little, and holds no float.
use Rattle.std.proofs.Common.{◌≡◌, ℕ, ◌≤◌, Bool, true, false, List, [], ◌∷◌, ◌++◌, codes, filter, length, map, refl}
use Rattle.std.proofs.Common.{Option, None, Some}
use Rattle.std.proofs.Common.{◌∙◌, Result, Ok, Err, IfOk, ap, subst, sym}
use Rattle.std.proofs.Math.Dec.{eqb-suc-zero}
use Rattle.std.proofs.lemmas.Bool.{and_from}
use Rattle.std.proofs.lemmas.List.Folds.{list_all-append, list_all-map}
use Rattle.std.specs.List.{enumerate_from, flat_map, list_all}
use Rattle.std.specs.Option.{option_map}
use Rattle.serde_json.specs.Data.{Data, string, depth}
use Rattle.serde_json.specs.Written.{has_float}
use Rattle.mesh_text.specs.declared.memory.Memory.{Memory}
use Rattle.mesh_policy.proofs.Listed.{list_all-in_order}
use Rattle.mesh_policy.specs.Connection.{mesh_names}
use Rattle.mesh_policy.specs.Workload.{ListedPort, Workload}
use Rattle.mesh_policy.specs.declared.peer.Mode.{Mode}
use Rattle.mesh_policy.specs.declared.peer.Mode.TheVariants.{Disable, Permissive, Strict}
use Rattle.mesh_policy.specs.declared.policy.Action.{Action}
use Rattle.mesh_policy.specs.declared.policy.Action.TheVariants.{Allow, Deny, Audit}
use Rattle.mesh_policy.specs.declared.policy.AuthorizationPolicy.{AuthorizationPolicy}
use Rattle.mesh_policy.specs.declared.policy.Rule.{Rule}
use Rattle.mesh_policy.specs.declared.service.Protocol.{Protocol}
use Rattle.mesh_policy.specs.declared.service.Protocol.TheVariants as protocols
use Rattle.envoy_types.specs.ChainForms.{chain_written, match_written, socket_field, transport_written}
use Rattle.envoy_types.specs.FilterForms.{body_written, http_filter_written, http_filters_written, manager_written}
use Rattle.envoy_types.specs.FilterForms.{network_filter_written, proxy_written, route_config_written, route_written, router_written}
use Rattle.envoy_types.specs.FilterForms.{virtual_host_written}
use Rattle.envoy_types.specs.ListenerForms.{address_written, listener_written}
use Rattle.envoy_types.specs.PermissionForms.{permission_form}
use Rattle.envoy_types.specs.PrincipalForms.{principal_form}
use Rattle.envoy_types.specs.RbacForms.{action_word, http_rbac_written, network_rbac_written, policy_written, rbac_fields}
use Rattle.envoy_types.specs.RbacForms.{rules_written}
use Rattle.envoy_types.specs.SocketForms.{certificates_written, listener_filters_written, socket_written}
use Rattle.envoy_types.specs.TreeForms.{tree_written}
use Rattle.envoy_types.specs.WrittenFields.{config_written, field, list_field, list_written, map_written, named_written, number_written}
use Rattle.envoy_types.specs.WrittenFields.{optional_field}
use Rattle.envoy_types.specs.declared.access.Rbac.{Rbac}
use Rattle.envoy_types.specs.declared.access.RbacPolicy.{RbacPolicy}
use Rattle.envoy_types.specs.declared.chains.ChainBody.{ChainBody}
use Rattle.envoy_types.specs.declared.chains.FilterChain.{FilterChain}
use Rattle.envoy_types.specs.declared.chains.HttpFilter.{HttpFilter}
use Rattle.envoy_types.specs.declared.chains.HttpFilter.TheVariants as http
use Rattle.envoy_types.specs.declared.chains.Listener.{Listener}
use Rattle.envoy_types.specs.declared.chains.NetworkFilter.TheVariants as network
use Rattle.envoy_types.specs.declared.chains.Transport.{Transport}
use Rattle.envoy_types.specs.declared.chains.Transport.TheVariants.{RawBuffer, Tls}
use Rattle.envoy_types.specs.declared.fixed.TheConstants.{INBOUND_DIRECTION, TCP_PREFIX}
use Rattle.envoy_types.specs.declared.keys.TheConstants.{ACTION, ADDRESS, APPLICATION_PROTOCOLS, CLUSTER, DESTINATION_PORT, FILTERS}
use Rattle.envoy_types.specs.declared.keys.TheConstants.{FILTER_CHAINS, FILTER_CHAIN_MATCH, HTTP_FILTERS, LISTENER_FILTERS, NAME}
use Rattle.envoy_types.specs.declared.keys.TheConstants.{PERMISSIONS, POLICIES, PRINCIPALS, ROUTE_CONFIG, STAT_PREFIX}
use Rattle.envoy_types.specs.declared.keys.TheConstants.{TRAFFIC_DIRECTION, TRANSPORT_PROTOCOL}
use Rattle.envoy_types.specs.declared.names.TheConstants.{HTTP_MANAGER_NAME, HTTP_MANAGER_TYPE, HTTP_RBAC_NAME, HTTP_RBAC_TYPE}
use Rattle.envoy_types.specs.declared.names.TheConstants.{NETWORK_RBAC_NAME, NETWORK_RBAC_TYPE, TCP_PROXY_NAME, TCP_PROXY_TYPE}
use Rattle.authz_gen.specs.Rules.{permission_tree, principal_tree}
use Rattle.authz_gen.specs.Policies.{has_policy, name_before, policies_on, rbac_action, rbac_on, rule_on, rule_policies, rule_policy}
use Rattle.chain_build.specs.Chains.{chain_for_port, chains_on, cluster_of, opaque_chains, open_transport}
use Rattle.chain_build.specs.Filters.{body_on, rbac_filters, rbac_for}
use Rattle.chain_build.specs.Listener.{built, chains_at, chains_of, chains_of_port}
use Rattle.chain_build.proofs.Small.{config-small, each_small, ended-small, is_small, list-small, map-small, named-small}
use Rattle.chain_build.proofs.Small.{object-small, small-deeper-3, small-depth, small-whole, value_small}
use Rattle.chain_build.proofs.RulesLow.{permission-low, principal-low}

-- ---- policies

module _ (protocol : Protocol) where
  policy-small : (policy : AuthorizationPolicy) (entry : ℕ × Rule)
      → is_small 115 (policy_written (rule_policy protocol policy entry)) ≡ true
  unfolding policy_written rule_policy
  policy-small policy entry =
      let rule = rule_on protocol entry.1 in
      let permissions = list_written (tree_written permission_form) (permission_tree rule ∷ []) in
      let principals = list_written (tree_written principal_form) (principal_tree rule ∷ []) in
      object-small 114 (field PERMISSIONS.now permissions ∷ field PRINCIPALS.now principals ∷ [])
      (and_from _ _
      (list-small (tree_written permission_form) 113 (permission_tree rule ∷ []) (and_from _ _ (permission-low rule) refl))
      (and_from _ _
      (list-small (tree_written principal_form) 113 (principal_tree rule ∷ []) (and_from _ _ (principal-low rule) refl)) refl))

  abbrev policies_small : List RbacPolicy → Bool
  policies_small policies = each_small policy_written 115 policies

  rules-small : (policy : AuthorizationPolicy) (entries : List (ℕ × Rule))
      → policies_small (map (rule_policy protocol policy) entries) ≡ true
  rules-small policy [] = refl
  rules-small policy (entry ∷ entries) = and_from _ _ (policy-small policy entry) (rules-small policy entries)

  each-policy : (policies : List AuthorizationPolicy) → policies_small (flat_map (rule_policies protocol) policies) ≡ true
  each-policy [] = refl
  each-policy (policy ∷ policies) =
      list_all-append (λ made. is_small 115 (policy_written made)) (rule_policies protocol policy)
      (flat_map (rule_policies protocol) policies)
      ∙ and_from _ _ (rules-small policy (filter (has_policy protocol policy.action) (enumerate_from 0 policy.rules)))
      (each-policy policies)

  policies-small : (policies : List AuthorizationPolicy) → policies_small (policies_on protocol policies) ≡ true
  unfolding policies_on
  policies-small policies =
      list_all-in_order name_before (λ made. is_small 115 (policy_written made)) (flat_map (rule_policies protocol) policies)
      ∙ each-policy policies

  -- ---- filters

  rules-of : (action : Action) (policies : List AuthorizationPolicy)
      → is_small 117 (rules_written (record { action = rbac_action action; policies = policies_on protocol policies })) ≡ true
  unfolding rules_written
  rules-of action policies =
      let made = map_written (λ (policy : RbacPolicy). policy.name) policy_written (policies_on protocol policies) in
      object-small 116 (field ACTION.now (string (action_word (rbac_action action))) ∷ field POLICIES.now made ∷ [])
      (and_from _ _
      (map-small policy_written (λ (policy : RbacPolicy). policy.name) 115 (policies_on protocol policies) (policies-small policies)) refl)

  -- a filter stands three levels deeper behind the connection manager than before the TCP proxy
  http_rbac-small : (action : Action) (policies : List AuthorizationPolicy)
      → is_small 119 (http_filter_written (http.Rbac (rbac_on protocol action policies))) ≡ true
  unfolding http_filter_written http_rbac_written rbac_on
  http_rbac-small action policies =
      let fields = rbac_fields (rbac_on protocol action policies) in
      named-small 118 HTTP_RBAC_NAME.now (config_written HTTP_RBAC_TYPE.now fields)
      (config-small 117 HTTP_RBAC_TYPE.now fields (and_from _ _ (rules-of action policies) refl))

  network_rbac-small : (action : Action) (policies : List AuthorizationPolicy)
      → is_small 122 (network_filter_written (network.Rbac (rbac_on protocol action policies))) ≡ true
  unfolding network_filter_written network_rbac_written rbac_on
  network_rbac-small action policies =
      let fields = rbac_fields (rbac_on protocol action policies) ++ field STAT_PREFIX.now (string TCP_PREFIX.now) ∷ [] in
      let config = config_written NETWORK_RBAC_TYPE.now fields in
      small-deeper-3 119 (named_written NETWORK_RBAC_NAME.now config)
      (named-small 118 NETWORK_RBAC_NAME.now config
      (config-small 117 NETWORK_RBAC_TYPE.now fields (and_from _ _ (rules-of action policies) refl)))

  -- the filters of a chain, as a list of filters has each
  module _ {F : Type 0} (kind : Rbac → F) (written : F → Data) (n : ℕ)
      (each : (action : Action) (policies : List AuthorizationPolicy)
      → is_small n (written (kind (rbac_on protocol action policies))) ≡ true) where
    abbrev rbac_test : Rbac → Bool
    rbac_test rbac = is_small n (written (kind rbac))

    for-small : (action : Action) (policies : List AuthorizationPolicy) → list_all rbac_test (rbac_for protocol action policies) ≡ true
    for-small action [] = refl
    for-small action (policy ∷ policies) = rw (eqb-suc-zero (length policies)) (and_from _ _ (each action (policy ∷ policies)) refl)

    filters-small : (w : Workload) → each_small written n (map kind (rbac_filters protocol w)) ≡ true
    unfolding rbac_filters
    filters-small w =
        let audit = rbac_for protocol Audit w.audit in
        let deny = rbac_for protocol Deny w.deny in
        let allow = rbac_for protocol Allow w.allow in
        list_all-map (λ f. is_small n (written f)) kind (audit ++ deny ++ allow)
        ∙ list_all-append rbac_test (audit ++ deny) allow
        ∙ and_from _ _
        (list_all-append rbac_test audit deny ∙ and_from _ _ (for-small Audit w.audit) (for-small Deny w.deny))
        (for-small Allow w.allow)

-- ---- what a chain does

proxy-small : (cluster : List ℕ) → is_small 122 (proxy_written cluster) ≡ true
unfolding proxy_written
proxy-small cluster =
    let fields = field CLUSTER.now (string cluster) ∷ field STAT_PREFIX.now (string cluster) ∷ [] in
    named-small 121 TCP_PROXY_NAME.now (config_written TCP_PROXY_TYPE.now fields) (config-small 120 TCP_PROXY_TYPE.now fields refl)

router-small : is_small 119 router_written ≡ true
unfolding router_written named_written
router-small = refl

routes-small : (cluster : List ℕ) → is_small 120 (route_config_written cluster) ≡ true
unfolding route_config_written virtual_host_written route_written
routes-small cluster = refl

manager-small : (filters : List HttpFilter) (cluster : List ℕ) → each_small http_filter_written 119 filters ≡ true
    → is_small 122 (manager_written filters cluster) ≡ true
unfolding manager_written
manager-small filters cluster h =
    let fields =
    field HTTP_FILTERS.now (http_filters_written filters)
    ∷ field ROUTE_CONFIG.now (route_config_written cluster)
    ∷ field STAT_PREFIX.now (string cluster)
    ∷ [] in
    named-small 121 HTTP_MANAGER_NAME.now (config_written HTTP_MANAGER_TYPE.now fields)
    (config-small 120 HTTP_MANAGER_TYPE.now fields
    (and_from _ _ (ended-small http_filter_written 119 filters router_written h router-small) (and_from _ _ (routes-small cluster) refl)))

body-small : (protocol : Protocol) (w : Workload) (cluster : List ℕ) → is_small 123 (body_written (body_on protocol w cluster)) ≡ true
unfolding body_written body_on
body-small protocols.Tcp w cluster =
    ended-small network_filter_written 122 (map network.Rbac (rbac_filters protocols.Tcp w)) (proxy_written cluster)
    (filters-small protocols.Tcp network.Rbac network_filter_written 122 (network_rbac-small protocols.Tcp) w) (proxy-small cluster)
body-small protocols.Http w cluster =
    let filters = map http.Rbac (rbac_filters protocols.Http w) in
    let small = filters-small protocols.Http http.Rbac http_filter_written 119 (http_rbac-small protocols.Http) w in
    and_from _ _ (manager-small filters cluster small) refl

-- ---- chains

socket-small : is_small 123 socket_written ≡ true
unfolding socket_written certificates_written named_written
socket-small = refl

names-small : is_small 122 (list_written string mesh_names) ≡ true
unfolding list_written
names-small = refl

-- the names of a chain's match are those of the mesh or none
match-small : (port : Option ℕ) (transport : Option Transport) (names : List (List ℕ))
    → value_small 122 (list_field APPLICATION_PROTOCOLS.now string names).1 ≡ true
    → is_small 123 (match_written (record { port = port; transport = transport; alpn = names })) ≡ true
unfolding match_written
match-small port transport names h =
    object-small 122
    (list_field APPLICATION_PROTOCOLS.now string names
    ∷ optional_field DESTINATION_PORT.now number_written port
    ∷ optional_field TRANSPORT_PROTOCOL.now transport_written transport
    ∷ [])
    (and_from _ _ h (and_from _ _ (port-value port) (and_from _ _ (transport-value transport) refl))) where
      port-value : (port : Option ℕ) → value_small 122 (option_map number_written port) ≡ true
      port-value None = refl
      port-value (Some n) = refl

      transport-value : (transport : Option Transport) → value_small 122 (option_map transport_written transport) ≡ true
      transport-value None = refl
      transport-value (Some t) = refl

socket-value : (mutual_tls : Bool) → value_small 123 (socket_field mutual_tls).1 ≡ true
socket-value true = socket-small
socket-value false = refl

abbrev chain_test : FilterChain → Bool
chain_test chain = is_small 124 (chain_written chain)

abbrev chains_small : List FilterChain → Bool
chains_small chains = list_all chain_test chains

-- the chains of a port, each of which does what is written as a small value
module _ (port : Option ℕ) (body : ChainBody) (small : is_small 123 (body_written body) ≡ true) where
  chain-small : (ending : List ℕ) (transport : Option Transport) (names : List (List ℕ)) (mutual_tls : Bool)
      → value_small 122 (list_field APPLICATION_PROTOCOLS.now string names).1 ≡ true
      → is_small 124 (chain_written (chain_for_port port ending transport names mutual_tls body)) ≡ true
  unfolding chain_written chain_for_port
  chain-small ending transport names mutual_tls h =
      let chain = chain_for_port port ending transport names mutual_tls body in
      object-small 123
      (field FILTER_CHAIN_MATCH.now (match_written chain.matching)
      ∷ field FILTERS.now (body_written chain.body)
      ∷ field NAME.now (string chain.name)
      ∷ socket_field mutual_tls
      ∷ [])
      (and_from _ _ (match-small port transport names h) (and_from _ _ small (and_from _ _ (socket-value mutual_tls) refl)))

  opaque-small : (protocol : Protocol) → chains_small (opaque_chains protocol port body) ≡ true
  opaque-small protocols.Tcp = and_from _ _ (chain-small (codes "-opaque") (Some Tls) [] false refl) refl
  opaque-small protocols.Http = refl

  mode-small : (protocol : Protocol) (mode : Mode) → chains_small (chains_on protocol mode port body) ≡ true
  unfolding chains_on
  mode-small protocol Strict = and_from _ _ (chain-small (codes "-mtls") (Some Tls) [] true refl) refl
  mode-small protocol Permissive =
      and_from _ _ (chain-small (codes "-mtls") (Some Tls) mesh_names true names-small)
      (and_from _ _ (chain-small (codes "-plain") (Some RawBuffer) [] false refl) (opaque-small protocol))
  mode-small protocol Disable = and_from _ _ (chain-small (codes "-plain") (open_transport protocol) [] false refl) refl

at-small : (w : Workload) (protocol : Protocol) (mode : Mode) (port : Option ℕ) → chains_small (chains_at w protocol mode port) ≡ true
at-small w protocol mode port =
    mode-small port (body_on protocol w (cluster_of port)) (body-small protocol w (cluster_of port)) protocol mode

listed-small : (w : Workload) (ports : List ListedPort) → chains_small (flat_map (chains_of_port w) ports) ≡ true
listed-small w [] = refl
listed-small w (port ∷ ports) =
    list_all-append chain_test (chains_of_port w port) (flat_map (chains_of_port w) ports)
    ∙ and_from _ _ (at-small w port.protocol port.mode (Some port.number)) (listed-small w ports)

chains-small : (w : Workload) → chains_small (chains_of w) ≡ true
unfolding chains_of
chains-small w =
    list_all-append chain_test (flat_map (chains_of_port w) w.ports) (chains_at w protocols.Tcp w.other_mode None)
    ∙ and_from _ _ (listed-small w w.ports) (at-small w protocols.Tcp w.other_mode None)

-- ---- the listener

address-small : (address : List ℕ) (port : ℕ) → is_small 125 (address_written address port) ≡ true
unfolding address_written
address-small address port = refl

inspectors-small : is_small 125 listener_filters_written ≡ true
unfolding listener_filters_written named_written
inspectors-small = refl

pub built-small : (w : Workload) → is_small 126 (listener_written (built w)) ≡ true
unfolding listener_written built
built-small w =
    let listener = built w in
    object-small 125
    (field ADDRESS.now (address_written listener.address listener.port)
    ∷ field FILTER_CHAINS.now (list_written chain_written listener.chains)
    ∷ field LISTENER_FILTERS.now listener_filters_written
    ∷ field NAME.now (string listener.name)
    ∷ field TRAFFIC_DIRECTION.now (string INBOUND_DIRECTION.now)
    ∷ [])
    (and_from _ _ (address-small listener.address listener.port)
    (and_from _ _ (list-small chain_written 124 listener.chains (chains-small w))
    (and_from _ _ inspectors-small refl)))

-- It is nested at most 126 deep, as a reader takes it, whatever the workload holds.
pub shallow : (w : Workload) → depth (listener_written (built w)) ≤ 126
shallow w = small-depth 126 (listener_written (built w)) (built-small w)

pub whole : (w : Workload) → has_float (listener_written (built w)) ≡ false
whole w = small-whole 126 (listener_written (built w)) (built-small w)

-- The same of the answer of a build.
pub shallow-answer : (w : Workload) (r : Result Listener Memory) → IfOk r (λ listener. listener ≡ built w)
    → IfOk r (λ listener. depth (listener_written listener) ≤ 126)
shallow-answer w (Ok listener) e = subst (λ l. depth (listener_written l) ≤ 126) (sym e) (shallow w)
shallow-answer w (Err e) shape = tt

pub whole-answer : (w : Workload) (r : Result Listener Memory) → IfOk r (λ listener. listener ≡ built w)
    → IfOk r (λ listener. has_float (listener_written listener) ≡ false)
whole-answer w (Ok listener) e = ap (λ l. has_float (listener_written l)) e ∙ whole w
whole-answer w (Err e) shape = tt
