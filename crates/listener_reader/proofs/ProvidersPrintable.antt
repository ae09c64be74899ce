-- A value without fault is that of a token provider that can be written.
use Rattle.std.proofs.Common.{◌≡◌, ℕ, ◌≤◌, true, List, [], ◌∷◌, ◌++◌, length, Option, Some, None, refl, ap, ◌∙◌, suc, append-nil}
use Rattle.std.proofs.lemmas.Bool.{and_from, le-leb}
use Rattle.std.proofs.lemmas.List.Elements.{filter_map-append}
use Rattle.std.proofs.lemmas.List.Folds.{list_all-append}
use Rattle.std.proofs.lemmas.List.Sums.{list_all-from_AllPass}
use Rattle.std.specs.Bool.{⊤}
use Rattle.std.specs.List.{filter_map, list_all}
use Rattle.std.specs.Option.{ForSome}
use Rattle.serde_json.specs.Data.{Data, Items, no_items, item}
use Rattle.serde_json.specs.Find.{get}
use Rattle.mesh_doc.proofs.NoFault as no_fault
use Rattle.mesh_doc.proofs.NoFault.{Ensures, ◌⨾⨾◌, IsListOf, anything, strict_object}
use Rattle.mesh_doc.specs.Fields.{optional_written_in}
use Rattle.mesh_doc.specs.Kinds.{items_of, text_faults, text_in}
use Rattle.mesh_doc.specs.Lists.{each_in, found_list, list_in, listed_written_in}
use Rattle.mesh_doc.specs.declared.reason.Reason.TheVariants as reason
use Rattle.mesh_policy.specs.Jwt.{default_places, or_default}
use Rattle.mesh_policy.specs.declared.jwt.TokenPlace.{TokenPlace}
use Rattle.envoy_types.specs.HeaderForms.{is_lower_token}
use Rattle.envoy_types.specs.ProviderForms.{from_header_faults, from_header_in, from_param_in, header_of, local_keys_faults}
use Rattle.envoy_types.specs.ProviderForms.{local_keys_in, lower_token_faults, param_of, payload_header_is_printable, place_is_printable}
use Rattle.envoy_types.specs.ProviderForms.{places_are_printable, places_in, provider_faults, provider_in, provider_is_printable}
use Rattle.envoy_types.specs.ProviderForms.{provider_rule_in, remote_keys_faults, remote_keys_in}
use Rattle.envoy_types.specs.SmallForms.{is_short_list, most_entries}
use Rattle.envoy_types.specs.declared.fixed.TheConstants.{PAYLOAD}
use Rattle.envoy_types.specs.declared.keys.TheConstants.{AUDIENCES, FORWARD, FORWARD_PAYLOAD_HEADER, FROM_HEADERS, FROM_PARAMS, ISSUER}
use Rattle.envoy_types.specs.declared.keys.TheConstants.{LOCAL_JWKS, NAME, PAYLOAD_IN_METADATA, REMOTE_JWKS, VALUE_PREFIX}
use Rattle.listener_reader.proofs.HeadersFirst.{places-ordered}
use Rattle.listener_reader.proofs.PartsPrintable.{any-text, any-truth, fixed, one}

-- ---- each place

lower-token : Ensures lower_token_faults text_in (λ t. is_lower_token t ≡ true)
lower-token = no_fault.tested is_lower_token reason.BadForm

header-printable : Ensures from_header_faults from_header_in (λ at. place_is_printable at ≡ true)
unfolding from_header_faults from_header_in
header-printable = strict_object _ (record {
  holds = λ d at h.
      let parts = (no_fault.required_written NAME.now lower-token
      ⨾⨾ no_fault.optional_written VALUE_PREFIX.now any-text).holds d at h in
      parts.0;
})

param-printable : Ensures text_faults from_param_in (λ at. place_is_printable at ≡ true)
unfolding from_param_in
param-printable = record { holds = λ d at h. refl }

-- ---- headers and parameters apart

no-headers : (ds : Items) → filter_map header_of (each_in from_param_in ds) ≡ []
unfolding from_param_in
no-headers no_items = refl
no-headers (item d ds) = no-headers ds

no-params : (ds : Items) → filter_map param_of (each_in from_header_in ds) ≡ []
unfolding from_header_in
no-params no_items = refl
no-params (item d ds) = no-params ds

all-headers : (ds : Items) → length (filter_map header_of (each_in from_header_in ds)) ≡ length (each_in from_header_in ds)
unfolding from_header_in
all-headers no_items = refl
all-headers (item d ds) = ap suc (all-headers ds)

all-params : (ds : Items) → length (filter_map param_of (each_in from_param_in ds)) ≡ length (each_in from_param_in ds)
unfolding from_param_in
all-params no_items = refl
all-params (item d ds) = ap suc (all-params ds)

-- of the fields that were found
no-header-found : (o : Option Data) → filter_map header_of (found_list from_param_in o) ≡ []
unfolding list_in
no-header-found None = refl
no-header-found (Some d) = no-headers (items_of d)

no-param-found : (o : Option Data) → filter_map param_of (found_list from_header_in o) ≡ []
unfolding list_in
no-param-found None = refl
no-param-found (Some d) = no-params (items_of d)

all-headers-found : (o : Option Data)
    → length (filter_map header_of (found_list from_header_in o)) ≡ length (found_list from_header_in o)
unfolding list_in
all-headers-found None = refl
all-headers-found (Some d) = all-headers (items_of d)

all-params-found : (o : Option Data)
    → length (filter_map param_of (found_list from_param_in o)) ≡ length (found_list from_param_in o)
unfolding list_in
all-params-found None = refl
all-params-found (Some d) = all-params (items_of d)

-- ---- and the default ones where there is none

or-short : {B : Type 0} (of : TokenPlace → Option B) (places : List TokenPlace) → is_short_list (filter_map of default_places) ≡ true
    → is_short_list (filter_map of places) ≡ true → is_short_list (filter_map of (or_default places)) ≡ true
or-short of [] default h = default
or-short of (first ∷ more) default h = h

or-printable : (places : List TokenPlace) → list_all place_is_printable places ≡ true
    → list_all place_is_printable (or_default places) ≡ true
unfolding is_lower_token
or-printable [] h = refl
or-printable (first ∷ more) h = h

-- ---- all places

module _ (headers params : Option Data) where
  abbrev written : List TokenPlace
  written = found_list from_header_in headers ++ found_list from_param_in params

  headers-short : length (found_list from_header_in headers) ≤ most_entries → is_short_list (filter_map header_of written) ≡ true
  headers-short few =
      let front = filter_map header_of (found_list from_header_in headers) in
      let same : filter_map header_of written ≡ front =
      filter_map-append header_of (found_list from_header_in headers) (found_list from_param_in params)
      ∙ ap (λ ps. front ++ ps) (no-header-found params) ∙ append-nil front in
      le-leb _ most_entries (rw (same, all-headers-found headers) few)

  params-short : length (found_list from_param_in params) ≤ most_entries → is_short_list (filter_map param_of written) ≡ true
  params-short few =
      let same : filter_map param_of written ≡ filter_map param_of (found_list from_param_in params) =
      filter_map-append param_of (found_list from_header_in headers) (found_list from_param_in params)
      ∙ ap (λ hs. hs ++ filter_map param_of (found_list from_param_in params)) (no-param-found headers) in
      le-leb _ most_entries (rw (same, all-params-found params) few)

  all-printable : IsListOf most_entries (λ at. place_is_printable at ≡ true) (found_list from_header_in headers)
      → IsListOf most_entries (λ at. place_is_printable at ≡ true) (found_list from_param_in params)
      → list_all place_is_printable written ≡ true
  all-printable h p =
      list_all-append place_is_printable (found_list from_header_in headers) (found_list from_param_in params)
      ∙ and_from _ _ (list_all-from_AllPass place_is_printable _ h.each) (list_all-from_AllPass place_is_printable _ p.each)

places-printable : (d : Data)
    → IsListOf most_entries (λ at. place_is_printable at ≡ true) (listed_written_in FROM_HEADERS.now from_header_in d)
    → IsListOf most_entries (λ at. place_is_printable at ≡ true) (listed_written_in FROM_PARAMS.now from_param_in d)
    → places_are_printable (places_in d) ≡ true
unfolding places_in listed_written_in
places-printable d h p =
    let headers = get FROM_HEADERS.now d in
    let params = get FROM_PARAMS.now d in
    let all = or-printable (written headers params) (all-printable headers params h p) in
    let few-headers = or-short header_of (written headers params) refl (headers-short headers params h.few) in
    let few-params = or-short param_of (written headers params) refl (params-short headers params p.few) in
    and_from _ _ (and_from _ _ (and_from _ _ (places-ordered d) all) few-headers) few-params

-- ---- the provider

payload-printable : (name : Option (List ℕ)) → ForSome name (λ t. is_lower_token t ≡ true) → payload_header_is_printable name ≡ true
payload-printable None h = refl
payload-printable (Some t) h = h t refl

any-local : Ensures local_keys_faults local_keys_in (λ _. ⊤)
any-local = anything

any-remote : Ensures remote_keys_faults remote_keys_in (λ _. ⊤)
any-remote = anything

pub provider-printable : (name : List ℕ)
    → Ensures (provider_faults name) (provider_in name) (λ provider. provider_is_printable provider ≡ true)
unfolding provider_faults provider_in provider_rule_in provider_is_printable
provider-printable name = strict_object _ (record {
  holds = λ d at h.
      let parts = (one (LOCAL_JWKS.now ∷ REMOTE_JWKS.now ∷ [])
      ⨾⨾ (no_fault.listed_written AUDIENCES.now most_entries any-text
      ⨾⨾ no_fault.optional_written FORWARD.now any-truth
      ⨾⨾ no_fault.optional_written FORWARD_PAYLOAD_HEADER.now lower-token
      ⨾⨾ no_fault.listed_written FROM_HEADERS.now most_entries header-printable
      ⨾⨾ no_fault.listed_written FROM_PARAMS.now most_entries param-printable)
      ⨾⨾ no_fault.required_written ISSUER.now any-text
      ⨾⨾ no_fault.optional_written LOCAL_JWKS.now any-local
      ⨾⨾ no_fault.required_written PAYLOAD_IN_METADATA.now (fixed PAYLOAD.now)
      ⨾⨾ no_fault.optional_written REMOTE_JWKS.now any-remote).holds d at h in
      let fields = parts.1.0 in
      and_from _ _ (and_from _ _ (le-leb _ most_entries fields.0.few) (places-printable d fields.1.1.1.0 fields.1.1.1.1))
      (payload-printable (optional_written_in FORWARD_PAYLOAD_HEADER.now text_in d) fields.1.1.0);
})
