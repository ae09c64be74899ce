-- What is written of the filters of a chain is read back: the TCP proxy with the filters before it, and the connection manager.
use Rattle.std.proofs.Common.{◌≡◌, ℕ, ◌+◌, true, false, ◌||◌, nat_le, List, [], ◌∷◌, ◌++◌, length, map, refl, sym, subst, ap, ap₂, ◌∙◌}
use Rattle.std.proofs.lemmas.Bool.{and_parts}
use Rattle.std.specs.Str.{bytes_eq}
use Rattle.serde_json.specs.Data.{Data, array, string}
use Rattle.serde_json.specs.View.{items_of as items}
use Rattle.mesh_doc.specs.Fields.{required_written, required_written_in}
use Rattle.mesh_doc.specs.Kinds.{items_of, text_in}
use Rattle.mesh_doc.specs.Known.{is_known}
use Rattle.mesh_doc.specs.declared.reason.Reason.TheVariants as reason
use Rattle.envoy_types.proofs.AuthzBack.{http-authz-back, network-authz-back}
use Rattle.envoy_types.proofs.EndingsBack.{ending-length, ending-passes, front-back, front-ending, items-pass, last-back, last-ending}
use Rattle.envoy_types.proofs.FieldsBack.{Passes, behind, both, demanded, strict-object}
use Rattle.envoy_types.proofs.JwtBack.{jwt-back}
use Rattle.envoy_types.proofs.ObjectsBack.{given-passes, passing, required-at, required-field}
use Rattle.envoy_types.proofs.PartsBack.{Back, fixed-passes, list-passes, named-back, named-passes, plain-passes, sole-back, text-back}
use Rattle.envoy_types.proofs.RbacBack.{http-rbac-back, network-rbac-back}
use Rattle.envoy_types.specs.AuthzForms.{http_authz_written, network_authz_written}
use Rattle.envoy_types.specs.FilterForms.{are_http_filters, are_tcp_filters, body_entries_faults, body_faults, body_in, body_is_printable}
use Rattle.envoy_types.specs.FilterForms.{body_written, filters_are_printable, http_filter_faults, http_filter_in, http_filter_is_printable}
use Rattle.envoy_types.specs.FilterForms.{http_filter_written, http_filters_faults, http_filters_written, is_http_filter, is_manager}
use Rattle.envoy_types.specs.FilterForms.{is_network_filter, manager_config_faults, manager_config_in, manager_faults, manager_in}
use Rattle.envoy_types.specs.FilterForms.{manager_written, network_filter_faults, network_filter_in, network_filter_is_printable}
use Rattle.envoy_types.specs.FilterForms.{network_filter_written, proxy_config_faults, proxy_faults, proxy_in, proxy_written}
use Rattle.envoy_types.specs.FilterForms.{route_action_faults, route_config_faults, route_config_written, route_faults, route_match_faults}
use Rattle.envoy_types.specs.FilterForms.{route_name_in, route_written, router_faults, router_written, virtual_host_faults}
use Rattle.envoy_types.specs.FilterForms.{virtual_host_written}
use Rattle.envoy_types.specs.Jwt.{Authentication}
use Rattle.envoy_types.specs.JwtForms.{jwt_written}
use Rattle.envoy_types.specs.RbacForms.{http_rbac_written, network_rbac_written}
use Rattle.envoy_types.specs.SmallForms.{fixed_faults, front_in, is_named, last_in, most_entries}
use Rattle.envoy_types.specs.SmallForms.{plain_config_faults, short_list_faults, sole_list}
use Rattle.envoy_types.specs.WrittenFields.{Field, field, named_written, object_of}
use Rattle.envoy_types.specs.declared.access.Rbac.{Rbac}
use Rattle.envoy_types.specs.declared.authz.ExtAuthz.{ExtAuthz}
use Rattle.envoy_types.specs.declared.chains.ChainBody.{ChainBody}
use Rattle.envoy_types.specs.declared.chains.ChainBody.TheVariants.{Tcp, Http}
use Rattle.envoy_types.specs.declared.chains.HttpFilter.{HttpFilter}
use Rattle.envoy_types.specs.declared.chains.HttpFilter.TheVariants as http
use Rattle.envoy_types.specs.declared.chains.NetworkFilter.{NetworkFilter}
use Rattle.envoy_types.specs.declared.chains.NetworkFilter.TheVariants as network
use Rattle.envoy_types.specs.declared.fixed.TheConstants.{ALL_DOMAINS, ALL_PATHS, INBOUND_HOST}
use Rattle.envoy_types.specs.declared.keys.TheConstants.{CLUSTER, DOMAINS, HTTP_FILTERS, MATCH, NAME, PREFIX, ROUTE, ROUTES}
use Rattle.envoy_types.specs.declared.keys.TheConstants.{ROUTE_CONFIG, STAT_PREFIX, TYPE, VIRTUAL_HOSTS}
use Rattle.envoy_types.specs.declared.names.TheConstants.{HTTP_AUTHZ_NAME, HTTP_MANAGER_NAME, HTTP_MANAGER_TYPE, HTTP_RBAC_NAME}
use Rattle.envoy_types.specs.declared.names.TheConstants.{JWT_NAME, NETWORK_AUTHZ_NAME, NETWORK_RBAC_NAME, ROUTER_NAME, ROUTER_TYPE}
use Rattle.envoy_types.specs.declared.names.TheConstants.{TCP_PROXY_NAME, TCP_PROXY_TYPE}

-- the text that another one is equal to
same-passes : (word other : List ℕ) → word ≡ other → Passes (fixed_faults word) (string other)
same-passes word other e = subst (λ w. Passes (fixed_faults w) (string other)) (sym e) (fixed-passes other)

-- ---- the TCP proxy

pub proxy-back : (cluster : List ℕ) → Back proxy_faults proxy_in (proxy_written cluster) cluster
unfolding proxy_config_faults proxy_in proxy_written is_known
proxy-back cluster =
    let fs : List Field =
    field TYPE.now (string TCP_PROXY_TYPE.now) ∷ field CLUSTER.now (string cluster) ∷ field STAT_PREFIX.now (string cluster) ∷ [] in
    let named = required-field fs refl CLUSTER.now _ text_in _ cluster refl (text-back cluster) in
    named-back TCP_PROXY_NAME.now _ (required_written_in CLUSTER.now text_in) (object_of fs) cluster (record {
      passes = strict-object (TYPE.now ∷ CLUSTER.now ∷ STAT_PREFIX.now ∷ []) _ fs refl
          (both (required-at fs refl TYPE.now _ _ refl (fixed-passes TCP_PROXY_TYPE.now))
          (both named.passes
          (given-passes (λ d. required_written STAT_PREFIX.now (fixed_faults (required_written_in CLUSTER.now text_in d))) (object_of fs)
          (required-at fs refl STAT_PREFIX.now _ _ refl (same-passes _ cluster named.back)))));
      back = named.back;
    })

-- ---- filters by their names

named-is : (name word : List ℕ) (config : Data) → is_named word (named_written name config) ≡ bytes_eq name word
unfolding is_named named_written
named-is name word config = refl

network-rbac-is : (word : List ℕ) (rbac : Rbac) → is_named word (network_rbac_written rbac) ≡ bytes_eq NETWORK_RBAC_NAME.now word
unfolding network_rbac_written
network-rbac-is word rbac = named-is NETWORK_RBAC_NAME.now word _

network-authz-is : (word : List ℕ) (authz : ExtAuthz) → is_named word (network_authz_written authz) ≡ bytes_eq NETWORK_AUTHZ_NAME.now word
unfolding network_authz_written
network-authz-is word authz = named-is NETWORK_AUTHZ_NAME.now word _

http-rbac-is : (word : List ℕ) (rbac : Rbac) → is_named word (http_rbac_written rbac) ≡ bytes_eq HTTP_RBAC_NAME.now word
unfolding http_rbac_written
http-rbac-is word rbac = named-is HTTP_RBAC_NAME.now word _

http-authz-is : (word : List ℕ) (authz : ExtAuthz) → is_named word (http_authz_written authz) ≡ bytes_eq HTTP_AUTHZ_NAME.now word
unfolding http_authz_written
http-authz-is word authz = named-is HTTP_AUTHZ_NAME.now word _

jwt-is : (word : List ℕ) (jwt : Authentication) → is_named word (jwt_written jwt) ≡ bytes_eq JWT_NAME.now word
unfolding jwt_written
jwt-is word jwt = named-is JWT_NAME.now word _

network-filter-back : (filter : NetworkFilter) → network_filter_is_printable filter ≡ true
    → Back network_filter_faults network_filter_in (network_filter_written filter) filter
unfolding network_filter_faults network_filter_in network_filter_written network_filter_is_printable
network-filter-back (network.Rbac rbac) h =
    let known = network-rbac-back rbac h in
    let is : is_named NETWORK_RBAC_NAME.now (network_rbac_written rbac) ≡ true = network-rbac-is NETWORK_RBAC_NAME.now rbac in
    record { passes = record { clean = λ at. rw is (known.passes.clean at) }; back = rw is (ap (λ r. network.Rbac r) known.back) }
network-filter-back (network.ExtAuthz authz) h =
    let known = network-authz-back authz h in
    let is : is_named NETWORK_RBAC_NAME.now (network_authz_written authz) ≡ false = network-authz-is NETWORK_RBAC_NAME.now authz in
    record { passes = record { clean = λ at. rw is (known.passes.clean at) }; back = rw is (ap (λ r. network.ExtAuthz r) known.back) }

network-kind : (filter : NetworkFilter) → is_network_filter (network_filter_written filter) ≡ true
unfolding network_filter_written
network-kind (network.Rbac rbac) = rw (network-rbac-is NETWORK_RBAC_NAME.now rbac) refl
network-kind (network.ExtAuthz authz) =
    rw (network-authz-is NETWORK_RBAC_NAME.now authz, network-authz-is NETWORK_AUTHZ_NAME.now authz) refl

http-filter-back : (filter : HttpFilter) → http_filter_is_printable filter ≡ true
    → Back http_filter_faults http_filter_in (http_filter_written filter) filter
unfolding http_filter_faults http_filter_in http_filter_written http_filter_is_printable
http-filter-back (http.Rbac rbac) h =
    let known = http-rbac-back rbac h in
    let is : is_named HTTP_RBAC_NAME.now (http_rbac_written rbac) ≡ true = http-rbac-is HTTP_RBAC_NAME.now rbac in
    record { passes = record { clean = λ at. rw is (known.passes.clean at) }; back = rw is (ap (λ r. http.Rbac r) known.back) }
http-filter-back (http.ExtAuthz authz) h =
    let known = http-authz-back authz h in
    let no : is_named HTTP_RBAC_NAME.now (http_authz_written authz) ≡ false = http-authz-is HTTP_RBAC_NAME.now authz in
    let is : is_named HTTP_AUTHZ_NAME.now (http_authz_written authz) ≡ true = http-authz-is HTTP_AUTHZ_NAME.now authz in
    record {
      passes = record { clean = λ at. rw (no, is) (known.passes.clean at) };
      back = rw (no, is) (ap (λ r. http.ExtAuthz r) known.back);
    }
http-filter-back (http.Jwt jwt) h =
    let known = jwt-back jwt h in
    let no : is_named HTTP_RBAC_NAME.now (jwt_written jwt) ≡ false = jwt-is HTTP_RBAC_NAME.now jwt in
    let nor : is_named HTTP_AUTHZ_NAME.now (jwt_written jwt) ≡ false = jwt-is HTTP_AUTHZ_NAME.now jwt in
    record {
      passes = record { clean = λ at. rw (no, nor) (known.passes.clean at) };
      back = rw (no, nor) (ap (λ r. http.Jwt r) known.back);
    }

http-kind : (filter : HttpFilter) → is_http_filter (http_filter_written filter) ≡ true
unfolding http_filter_written
http-kind (http.Rbac rbac) = rw (http-rbac-is HTTP_RBAC_NAME.now rbac) refl
http-kind (http.ExtAuthz authz) = rw (http-authz-is HTTP_RBAC_NAME.now authz, http-authz-is HTTP_AUTHZ_NAME.now authz) refl
http-kind (http.Jwt jwt) = rw (jwt-is HTTP_RBAC_NAME.now jwt, jwt-is HTTP_AUTHZ_NAME.now jwt, jwt-is JWT_NAME.now jwt) refl

-- ---- the filters before the router

router-passes : Passes router_faults router_written
unfolding router_faults router_written
router-passes = named-passes ROUTER_NAME.now (plain_config_faults ROUTER_TYPE.now) _ (plain-passes ROUTER_TYPE.now)

router-is : is_named ROUTER_NAME.now router_written ≡ true
unfolding router_written
router-is = named-is ROUTER_NAME.now ROUTER_NAME.now _

-- a list that is not over its limit with one entry more
few-pass : {F : Type 0} (written : F → Data) (filters : List F) (e : Data) → nat_le (length filters + 1) most_entries ≡ true
    → Passes (short_list_faults most_entries) (array (items (map written filters ++ e ∷ [])))
few-pass written filters e h =
    list-passes most_entries (map written filters ++ e ∷ []) (ap (λ n. nat_le n most_entries) (ending-length written filters e) ∙ h)

http-are : (filters : List HttpFilter) → are_http_filters (items (map http_filter_written filters ++ router_written ∷ [])) ≡ true
unfolding are_http_filters
http-are filters =
    rw (
      front-ending (map http_filter_written filters) router_written,
      last-ending (map http_filter_written filters) router_written,
      items-pass http_filter_written is_http_filter http-kind filters,
    ) router-is

http-filters-back : (filters : List HttpFilter) → filters_are_printable http_filter_is_printable filters ≡ true
    → Back http_filters_faults (front_in http_filter_in) (http_filters_written filters) filters
unfolding http_filters_faults
http-filters-back filters h =
    let few = and_parts (nat_le (length filters + 1) most_entries) _ h in
    record {
      passes = behind (behind (few-pass http_filter_written filters router_written few.0)
          (demanded (λ d. are_http_filters (items_of d)) reason.BadForm _ (http-are filters)))
          (ending-passes http_filter_faults http_filter_in http_filter_written http_filter_is_printable http-filter-back filters few.1
          router_faults router_written router-passes);
      back = front-back http_filter_faults http_filter_in http_filter_written http_filter_is_printable http-filter-back filters few.1
          router_written;
    }

-- ---- routes

route-passes : (name : List ℕ) → Passes (route_faults name) (route_written name)
unfolding route_faults route_written route_match_faults route_action_faults is_known
route-passes name =
    let all : List Field = field PREFIX.now (string ALL_PATHS.now) ∷ [] in
    let to : List Field = field CLUSTER.now (string name) ∷ [] in
    let fs : List Field = field MATCH.now (object_of all) ∷ field ROUTE.now (object_of to) ∷ [] in
    strict-object (MATCH.now ∷ ROUTE.now ∷ []) _ fs refl
    (both
    (required-at fs refl MATCH.now _ _ refl (strict-object (PREFIX.now ∷ []) _ all refl
    (required-at all refl PREFIX.now _ _ refl (fixed-passes ALL_PATHS.now))))
    (required-at fs refl ROUTE.now _ _ refl (strict-object (CLUSTER.now ∷ []) _ to refl
    (required-at to refl CLUSTER.now _ _ refl (fixed-passes name)))))

virtual-host-passes : (name : List ℕ) → Passes (virtual_host_faults name) (virtual_host_written name)
unfolding virtual_host_faults virtual_host_written is_known
virtual-host-passes name =
    let all : Data = string ALL_DOMAINS.now in
    let fs : List Field =
    field DOMAINS.now (array (items (all ∷ [])))
    ∷ field NAME.now (string INBOUND_HOST.now)
    ∷ field ROUTES.now (array (items (route_written name ∷ [])))
    ∷ [] in
    strict-object (DOMAINS.now ∷ NAME.now ∷ ROUTES.now ∷ []) _ fs refl
    (both (required-at fs refl DOMAINS.now _ _ refl (sole-back _ _ all all (passing (fixed-passes ALL_DOMAINS.now))).passes)
    (both (required-at fs refl NAME.now _ _ refl (fixed-passes INBOUND_HOST.now))
    (required-at fs refl ROUTES.now _ _ refl
    (sole-back _ _ (route_written name) (route_written name) (passing (route-passes name))).passes)))

-- routes that were asked under the name that is read
host-passes : (read name : List ℕ) → read ≡ name
    → Passes (sole_list (virtual_host_faults read)) (array (items (virtual_host_written name ∷ [])))
host-passes read name e = subst (λ n. Passes (sole_list (virtual_host_faults n)) (array (items (virtual_host_written name ∷ [])))) (sym e)
    (sole-back _ _ (virtual_host_written name) (virtual_host_written name) (passing (virtual-host-passes name))).passes

route-config-back : (name : List ℕ)
    → Back route_config_faults (required_written_in NAME.now text_in) (route_config_written name) name
unfolding route_config_faults route_config_written is_known
route-config-back name =
    let fs : List Field = field NAME.now (string name) ∷ field VIRTUAL_HOSTS.now (array (items (virtual_host_written name ∷ []))) ∷ [] in
    let named = required-field fs refl NAME.now _ text_in _ name refl (text-back name) in
    record {
      passes = strict-object (NAME.now ∷ VIRTUAL_HOSTS.now ∷ []) _ fs refl
          (both named.passes
          (given-passes (λ d. required_written VIRTUAL_HOSTS.now (sole_list (virtual_host_faults (required_written_in NAME.now text_in d))))
          (object_of fs) (required-at fs refl VIRTUAL_HOSTS.now _ _ refl (host-passes _ name named.back))));
      back = named.back;
    }

-- ---- the connection manager

pub manager-back : (filters : List HttpFilter) (cluster : List ℕ) → filters_are_printable http_filter_is_printable filters ≡ true
    → Back manager_faults manager_in (manager_written filters cluster) (Http filters cluster)
unfolding manager_config_faults manager_config_in manager_in manager_written route_name_in is_known
manager-back filters cluster h =
    let fs : List Field =
    field TYPE.now (string HTTP_MANAGER_TYPE.now)
    ∷ field HTTP_FILTERS.now (http_filters_written filters)
    ∷ field ROUTE_CONFIG.now (route_config_written cluster)
    ∷ field STAT_PREFIX.now (string cluster)
    ∷ [] in
    let all = required-field fs refl HTTP_FILTERS.now _ (front_in http_filter_in) _ filters refl (http-filters-back filters h) in
    let route = required-field fs refl ROUTE_CONFIG.now _ (required_written_in NAME.now text_in) _ cluster refl
    (route-config-back cluster) in
    named-back HTTP_MANAGER_NAME.now _ manager_config_in (object_of fs) (Http filters cluster) (record {
      passes = strict-object (TYPE.now ∷ HTTP_FILTERS.now ∷ ROUTE_CONFIG.now ∷ STAT_PREFIX.now ∷ []) _ fs refl
          (both (required-at fs refl TYPE.now _ _ refl (fixed-passes HTTP_MANAGER_TYPE.now))
          (both all.passes
          (both route.passes
          (given-passes (λ d. required_written STAT_PREFIX.now (fixed_faults (route_name_in d))) (object_of fs)
          (required-at fs refl STAT_PREFIX.now _ _ refl (same-passes _ cluster route.back))))));
      back = ap₂ (λ f c. Http f c) all.back route.back;
    })

-- ---- what a chain does

proxy-is : (cluster : List ℕ) → is_named TCP_PROXY_NAME.now (proxy_written cluster) ≡ true
unfolding proxy_written
proxy-is cluster = named-is TCP_PROXY_NAME.now TCP_PROXY_NAME.now _

tcp-are : (filters : List NetworkFilter) (cluster : List ℕ)
    → are_tcp_filters (items (map network_filter_written filters ++ proxy_written cluster ∷ [])) ≡ true
unfolding are_tcp_filters
tcp-are filters cluster =
    rw (
      front-ending (map network_filter_written filters) (proxy_written cluster),
      last-ending (map network_filter_written filters) (proxy_written cluster),
      items-pass network_filter_written is_network_filter network-kind filters,
    ) (proxy-is cluster)

-- a list that ends with the proxy is no connection manager
no-manager : (ds : List Data) (cluster : List ℕ) → is_manager (items (ds ++ proxy_written cluster ∷ [])) ≡ false
unfolding proxy_written
no-manager [] cluster = named-is TCP_PROXY_NAME.now HTTP_MANAGER_NAME.now _
no-manager (d ∷ []) cluster = refl
no-manager (d ∷ (e ∷ ds)) cluster = refl

manager-is : (filters : List HttpFilter) (cluster : List ℕ) → is_named HTTP_MANAGER_NAME.now (manager_written filters cluster) ≡ true
unfolding manager_written
manager-is filters cluster = named-is HTTP_MANAGER_NAME.now HTTP_MANAGER_NAME.now _

tcp-back : (filters : List NetworkFilter) (cluster : List ℕ) → filters_are_printable network_filter_is_printable filters ≡ true
    → Back body_faults body_in (array (items (map network_filter_written filters ++ proxy_written cluster ∷ []))) (Tcp filters cluster)
unfolding body_faults body_in body_entries_faults
tcp-back filters cluster h =
    let d : Data = array (items (map network_filter_written filters ++ proxy_written cluster ∷ [])) in
    let no : is_manager (items (map network_filter_written filters ++ proxy_written cluster ∷ [])) ≡ false =
    no-manager (map network_filter_written filters) cluster in
    let few = and_parts (nat_le (length filters + 1) most_entries) _ h in
    let ends = ending-passes network_filter_faults network_filter_in network_filter_written network_filter_is_printable network-filter-back
    filters few.1 proxy_faults (proxy_written cluster) (proxy-back cluster).passes in
    let front = front-back network_filter_faults network_filter_in network_filter_written network_filter_is_printable network-filter-back
    filters few.1 (proxy_written cluster) in
    let last = last-back proxy_in (map network_filter_written filters) (proxy_written cluster) ∙ (proxy-back cluster).back in
    record {
      passes = behind (behind (few-pass network_filter_written filters (proxy_written cluster) few.0)
          (demanded (λ v. is_manager (items_of v) || are_tcp_filters (items_of v)) reason.BadForm d
          (rw (no, tcp-are filters cluster) refl)))
          (record { clean = λ at. rw no (ends.clean at) });
      back = rw no (ap₂ (λ f c. Tcp f c) front last);
    }

http-back : (filters : List HttpFilter) (cluster : List ℕ) → filters_are_printable http_filter_is_printable filters ≡ true
    → Back body_faults body_in (array (items (manager_written filters cluster ∷ []))) (Http filters cluster)
unfolding body_faults body_in body_entries_faults last_in
http-back filters cluster h =
    let d : Data = array (items (manager_written filters cluster ∷ [])) in
    let is = manager-is filters cluster in
    let sole = sole-back manager_faults manager_in _ (Http filters cluster) (manager-back filters cluster h) in
    record {
      passes = behind (behind (list-passes most_entries (manager_written filters cluster ∷ []) refl)
          (demanded (λ v. is_manager (items_of v) || are_tcp_filters (items_of v)) reason.BadForm d (rw is refl)))
          (record { clean = λ at. rw is (sole.passes.clean at) });
      back = rw is (manager-back filters cluster h).back;
    }

pub body-back : (body : ChainBody) → body_is_printable body ≡ true → Back body_faults body_in (body_written body) body
unfolding body_is_printable body_written
body-back (Tcp filters cluster) h = tcp-back filters cluster h
body-back (Http filters cluster) h = http-back filters cluster h
