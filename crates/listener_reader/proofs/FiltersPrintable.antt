-- Values without fault are those of what a chain does that can be written, if the names in its filters rise.
use Rattle.std.proofs.Common.{◌≡◌, ◌+◌, ◌≤◌, ◌==◌, Bool, true, false, nat_le, List, [], length, All, None, if◌then◌else◌, refl, ap, suc}
use Rattle.std.proofs.Common.{arith}
use Rattle.std.proofs.lemmas.Bool.{and_from, le-leb, leb-true}
use Rattle.std.proofs.lemmas.List.Elements.{All-head}
use Rattle.std.specs.Bool.{⊤}
use Rattle.std.specs.List.{list_all}
use Rattle.serde_json.specs.Data.{Data, Items, no_items, item}
use Rattle.serde_json.specs.Events.{items_len}
use Rattle.mesh_doc.proofs.NoFault as no_fault
use Rattle.mesh_doc.proofs.NoFault.{Ensures, ◌⨾⨾◌, anything, earlier, later, passed, strict_object}
use Rattle.mesh_doc.specs.Faults.{Check, demands, first}
use Rattle.mesh_doc.specs.Fields.{required_written, required_written_in}
use Rattle.mesh_doc.specs.Kinds.{items_of, length_in, list_faults, text_in}
use Rattle.mesh_doc.specs.Lists.{each_in, list_in}
use Rattle.mesh_doc.specs.Places.{Steps}
use Rattle.mesh_doc.specs.declared.reason.Reason.TheVariants as reason
use Rattle.envoy_types.specs.AuthzForms.{authz_in, http_authz_faults, network_authz_faults}
use Rattle.envoy_types.specs.FilterForms.{body_entries_faults, body_faults, body_in, body_is_printable, filters_are_printable}
use Rattle.envoy_types.specs.FilterForms.{http_filter_faults, http_filter_in, http_filter_is_printable, http_filters_faults, is_manager}
use Rattle.envoy_types.specs.FilterForms.{manager_config_faults, manager_config_in, manager_faults, manager_in, network_filter_faults}
use Rattle.envoy_types.specs.FilterForms.{network_filter_in, network_filter_is_printable, proxy_faults, proxy_in, route_config_faults}
use Rattle.envoy_types.specs.FilterForms.{route_name_in, router_faults}
use Rattle.envoy_types.specs.JwtForms.{jwt_faults, jwt_in}
use Rattle.envoy_types.specs.RbacForms.{http_rbac_faults, network_rbac_faults, rbac_in}
use Rattle.envoy_types.specs.SmallForms.{ending_with, fixed_faults, front_in, front_of, given, is_named, last_in, last_of, most_entries}
use Rattle.envoy_types.specs.SmallForms.{short_list_faults, sole_list}
use Rattle.envoy_types.specs.declared.chains.ChainBody.{ChainBody}
use Rattle.envoy_types.specs.declared.chains.ChainBody.TheVariants.{Tcp}
use Rattle.envoy_types.specs.declared.chains.HttpFilter.{HttpFilter}
use Rattle.envoy_types.specs.declared.chains.HttpFilter.TheVariants as http
use Rattle.envoy_types.specs.declared.chains.NetworkFilter.{NetworkFilter}
use Rattle.envoy_types.specs.declared.chains.NetworkFilter.TheVariants as network
use Rattle.envoy_types.specs.declared.keys.TheConstants.{HTTP_FILTERS, NAME, ROUTE_CONFIG, STAT_PREFIX}
use Rattle.envoy_types.specs.declared.names.TheConstants.{HTTP_AUTHZ_NAME, HTTP_MANAGER_NAME, HTTP_MANAGER_TYPE, HTTP_RBAC_NAME}
use Rattle.envoy_types.specs.declared.names.TheConstants.{NETWORK_RBAC_NAME}
use Rattle.listener_reader.proofs.AuthzPrintable.{http-authz-printable, network-authz-printable}
use Rattle.listener_reader.proofs.JwtPrintable.{jwt-printable}
use Rattle.listener_reader.proofs.PartsPrintable.{all-pass, each-holds, list-that, named, typed}
use Rattle.listener_reader.proofs.RbacPrintable.{http-rbac-printable, network-rbac-printable}
use Rattle.listener_reader.specs.RisingNames.{body_rises, http_filter_rises, network_filter_rises}

-- ---- network filters

network-chosen : (d : Data) (at : Steps) (is_rbac : Bool)
    → first ((if is_rbac then network_rbac_faults else network_authz_faults) d at) ≡ None
    → network_filter_rises (if is_rbac then network.Rbac (rbac_in d) else network.ExtAuthz (authz_in d)) ≡ true
    → network_filter_is_printable (if is_rbac then network.Rbac (rbac_in d) else network.ExtAuthz (authz_in d)) ≡ true
unfolding network_filter_rises network_filter_is_printable
network-chosen d at true h rise = network-rbac-printable.holds d at h rise
network-chosen d at false h rise = network-authz-printable.holds d at h

-- a filter that can be written, if its names rise
abbrev IsNetwork : NetworkFilter → Type 0
IsNetwork filter = network_filter_rises filter ≡ true → network_filter_is_printable filter ≡ true

network-printable : Ensures network_filter_faults network_filter_in IsNetwork
unfolding network_filter_faults network_filter_in
network-printable = record { holds = λ d at h. network-chosen d at (is_named NETWORK_RBAC_NAME.now d) h }

-- ---- HTTP filters

http-chosen : (d : Data) (at : Steps) (is_rbac is_authz : Bool)
    → first ((if is_rbac then http_rbac_faults else if is_authz then http_authz_faults else jwt_faults) d at) ≡ None
    → http_filter_rises (if is_rbac then http.Rbac (rbac_in d) else if is_authz then http.ExtAuthz (authz_in d)
    else http.Jwt (jwt_in d)) ≡ true
    → http_filter_is_printable (if is_rbac then http.Rbac (rbac_in d) else if is_authz then http.ExtAuthz (authz_in d)
    else http.Jwt (jwt_in d)) ≡ true
unfolding http_filter_rises http_filter_is_printable
http-chosen d at true b h rise = http-rbac-printable.holds d at h rise
http-chosen d at false true h rise = http-authz-printable.holds d at h
http-chosen d at false false h rise = jwt-printable.holds d at h rise

abbrev IsHttp : HttpFilter → Type 0
IsHttp filter = http_filter_rises filter ≡ true → http_filter_is_printable filter ≡ true

http-printable : Ensures http_filter_faults http_filter_in IsHttp
unfolding http_filter_faults http_filter_in
http-printable = record {
  holds = λ d at h. http-chosen d at (is_named HTTP_RBAC_NAME.now d) (is_named HTTP_AUTHZ_NAME.now d) h;
}

-- ---- lists of filters with a last entry

front-length : {A : Type 0} (value : Data → A) (d : Data) (ds : Items) → length (each_in value (front_of (item d ds))) ≡ items_len ds
front-length value d no_items = refl
front-length value d (item e ds) = ap suc (front-length value e ds)

front-short : {A : Type 0} (value : Data → A) (ds : Items) → items_len ds ≤ most_entries
    → nat_le (length (each_in value (front_of ds)) + 1) most_entries ≡ true
front-short value no_items h = refl
front-short value (item d ds) h = le-leb _ most_entries (omega (arith, h, front-length value d ds))

-- the filters in front can be written, if their names rise
abbrev Front : {F : Type 0} → (F → Bool) → (F → Bool) → List F → Type 0
Front given test filters = list_all given filters ≡ true → filters_are_printable test filters ≡ true

front-printable : {F : Type 0} (given test : F → Bool) (f g : Check) (value : Data → F)
    → Ensures f value (λ filter. given filter ≡ true → test filter ≡ true)
    → (d : Data) (at : Steps) → nat_le (length_in d) most_entries ≡ true → first (ending_with f g d at) ≡ None
    → Front given test (front_in value d)
unfolding ending_with front_in length_in
front-printable given test f g value e d at short h rise =
    let front = front_of (items_of d) in
    and_from _ _ (front-short value (items_of d) (leb-true _ most_entries short))
    (all-pass given test (each_in value front) (each-holds e front 0 at (earlier _ _ h)) rise)

-- ---- the connection manager

http-filters-printable : Ensures http_filters_faults (front_in http_filter_in) (Front http_filter_rises http_filter_is_printable)
unfolding http_filters_faults short_list_faults
http-filters-printable = record {
  holds = λ d at h.
      let limits = first (demands (λ v. nat_le (length_in v) most_entries) reason.TooMany d at) in
      let short = earlier _ _ (earlier _ _ h) in
      front-printable http_filter_rises http_filter_is_printable http_filter_faults router_faults http_filter_in http-printable d at
      (passed (nat_le (length_in d) most_entries) _ at (later (first (list_faults d at)) limits short)) (later _ _ h);
}

-- a body that can be written, if its names rise
abbrev IsBody : ChainBody → Type 0
IsBody body = body_rises body ≡ true → body_is_printable body ≡ true

any-routes : Ensures route_config_faults (required_written_in NAME.now text_in) (λ _. ⊤)
any-routes = anything

manager-printable : Ensures manager_faults manager_in IsBody
unfolding manager_config_faults manager_in manager_config_in body_rises body_is_printable
manager-printable = named HTTP_MANAGER_NAME.now (strict_object _ (record {
  holds = λ d at h rise.
      let parts = (typed HTTP_MANAGER_TYPE.now
      ⨾⨾ no_fault.required_written HTTP_FILTERS.now http-filters-printable
      ⨾⨾ no_fault.required_written ROUTE_CONFIG.now any-routes
      ⨾⨾ anything {f = given (λ v. required_written STAT_PREFIX.now (fixed_faults (route_name_in v)))} {value = λ v. v}).holds d at h in
      parts.1.0 rise;
}))

-- ---- the filters of a chain

sole-printable : (d : Data) (ds : Items) (at : Steps) → is_manager (item d ds) ≡ true
    → All IsBody (each_in manager_in (item d ds)) → IsBody (manager_in (last_of (item d ds)))
sole-printable d no_items at is all = All-head IsBody (manager_in d) [] all
sole-printable d (item e ds) at is all = cc

manager-last : (ds : Items) (at : Steps) → is_manager ds ≡ true → All IsBody (each_in manager_in ds) → IsBody (manager_in (last_of ds))
manager-last no_items at is all = cc
manager-last (item d ds) at is all = sole-printable d ds at is all

body-chosen : (d : Data) (at : Steps) (is_sole : Bool) → is_manager (items_of d) ≡ is_sole → nat_le (length_in d) most_entries ≡ true
    → first ((if is_sole then sole_list manager_faults else ending_with network_filter_faults proxy_faults) d at) ≡ None
    → IsBody (if is_sole then last_in manager_in d else Tcp (front_in network_filter_in d) (last_in proxy_in d))
unfolding body_rises body_is_printable last_in list_in
body-chosen d at true is short h =
    manager-last (items_of d) at is ((list-that (λ n. n == 1) most_entries manager-printable).holds d at h).list.each
body-chosen d at false is short h =
    front-printable network_filter_rises network_filter_is_printable network_filter_faults proxy_faults network_filter_in network-printable
    d at short h

pub body-printable : Ensures body_faults body_in IsBody
unfolding body_faults body_in body_entries_faults short_list_faults
body-printable = record {
  holds = λ d at h.
      let limits = first (demands (λ v. nat_le (length_in v) most_entries) reason.TooMany d at) in
      let short = earlier _ _ (earlier _ _ h) in
      body-chosen d at (is_manager (items_of d)) refl
      (passed (nat_le (length_in d) most_entries) _ at (later (first (list_faults d at)) limits short)) (later _ _ h);
}
