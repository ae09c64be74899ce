-- What is written of a token provider is read back.
use Rattle.std.proofs.Common.{◌≡◌, ℕ, ◌==◌, Bool, true, false, ◌&&◌, not, List, [], ◌∷◌, ◌++◌, length, map, Option, Some, None}
use Rattle.std.proofs.Common.{option_map, unwrap_or, refl, ap, ap₂, ◌∙◌}
use Rattle.std.proofs.lemmas.Bool.{and_parts}
use Rattle.std.specs.List.{filter_map, list_all}
use Rattle.serde_json.specs.Data.{Data, string, Items, no_items, item}
use Rattle.serde_json.specs.Find.{get}
use Rattle.mesh_doc.specs.Faults.{Check}
use Rattle.mesh_doc.specs.Fields.{optional_written, optional_written_in, required_written, required_written_in, strict}
use Rattle.mesh_doc.specs.Kinds as kinds
use Rattle.mesh_doc.specs.Kinds.{text_faults, text_in, truth_faults, truth_in}
use Rattle.mesh_doc.specs.Known.{is_known}
use Rattle.mesh_doc.specs.Lists.{each_in, found_list, list_in, listed_written, listed_written_in}
use Rattle.mesh_doc.specs.declared.reason.Reason.TheVariants as reason
use Rattle.mesh_policy.specs.AcceptedTokens.{has_headers_first, is_param}
use Rattle.mesh_policy.specs.Jwt.{or_default}
use Rattle.mesh_policy.specs.declared.jwt.JwtRule.{JwtRule}
use Rattle.mesh_policy.specs.declared.jwt.Keys.{Keys}
use Rattle.mesh_policy.specs.declared.jwt.Keys.TheVariants.{Inline, Uri}
use Rattle.mesh_policy.specs.declared.jwt.TokenPlace.{TokenPlace}
use Rattle.mesh_policy.specs.declared.jwt.TokenPlace.TheVariants as place
use Rattle.envoy_types.specs.HeaderForms.{is_lower_token}
use Rattle.envoy_types.specs.Jwt.{Provider}
use Rattle.envoy_types.specs.ProviderForms.{from_header_faults, from_header_in, from_header_written, from_param_in, header_of}
use Rattle.envoy_types.specs.ProviderForms.{param_of, keys_field, payload_header_is_printable, provider_faults, provider_in}
use Rattle.envoy_types.specs.ProviderForms.{provider_is_printable, provider_rule_in, provider_written, token_fields_faults}
use Rattle.envoy_types.specs.ProviderForms.{keys_in, keys_uri_faults, keys_uri_written, local_keys_faults, local_keys_in}
use Rattle.envoy_types.specs.ProviderForms.{remote_keys_faults, remote_keys_in, lower_token_faults}
use Rattle.envoy_types.specs.ProviderForms.{place_is_printable, places_are_printable, places_in}
use Rattle.envoy_types.specs.SmallForms.{fixed_faults, is_short_list, most_entries, one_of}
use Rattle.envoy_types.specs.WrittenFields.{Field, field, list_field, object_of, optional_field, sole_field, text_field}
use Rattle.envoy_types.specs.WrittenFields.{truth_field}
use Rattle.envoy_types.specs.declared.fixed.TheConstants.{KEYS_CLUSTER, KEYS_TIME, PAYLOAD}
use Rattle.envoy_types.specs.declared.keys.TheConstants.{CLUSTER, FROM_HEADERS, FROM_PARAMS, HTTP_URI, INLINE_STRING}
use Rattle.envoy_types.specs.declared.keys.TheConstants.{LOCAL_JWKS, NAME, AUDIENCES, FORWARD, FORWARD_PAYLOAD_HEADER, ISSUER}
use Rattle.envoy_types.specs.declared.keys.TheConstants.{PAYLOAD_IN_METADATA, REMOTE_JWKS, TIMEOUT, URI, VALUE_PREFIX}
use Rattle.envoy_types.proofs.FieldsBack.{Passes, absent-passes, both, get-object, optional-passes, required-back}
use Rattle.envoy_types.proofs.FieldsBack.{required-passes, strict-object}
use Rattle.envoy_types.proofs.ObjectsBack.{text-field-back, texts-back, truth-field-back}
use Rattle.envoy_types.proofs.PartsBack.{Back, fixed-passes, listed-back, one-passes, option-all, optional-field-back}
use Rattle.envoy_types.proofs.PartsBack.{same-text, tested-back, text-back, text-passes}

-- ---- places

abbrev header-place : List ℕ × List ℕ → TokenPlace
header-place header = place.Header header.0 header.1

abbrev param-place : List ℕ → TokenPlace
param-place name = place.Param name

no-header : (places : List TokenPlace) → list_all is_param places ≡ true → filter_map header_of places ≡ []
no-header [] h = refl
no-header (place.Header name prefix ∷ places) h = cc
no-header (place.Param name ∷ places) h = no-header places h

all-params : (places : List TokenPlace) → list_all is_param places ≡ true → map param-place (filter_map param_of places) ≡ places
all-params [] h = refl
all-params (place.Header name prefix ∷ places) h = cc
all-params (place.Param name ∷ places) h = ap (λ (ps : List TokenPlace). place.Param name ∷ ps) (all-params places h)

-- the headers and then the parameters are the places
in-two : (places : List TokenPlace) → has_headers_first places ≡ true
    → map header-place (filter_map header_of places) ++ map param-place (filter_map param_of places) ≡ places
in-two [] h = refl
in-two (place.Header name prefix ∷ places) h = ap (λ (ps : List TokenPlace). place.Header name prefix ∷ ps) (in-two places h)
in-two (place.Param name ∷ places) h =
    let params = map param-place (filter_map param_of places) in
    ap (λ (hs : List (List ℕ × List ℕ)). map header-place hs ++ place.Param name ∷ params) (no-header places h)
    ∙ ap (λ (ps : List TokenPlace). place.Param name ∷ ps) (all-params places h)

no-default : (places : List TokenPlace) → not (length places == 0) ≡ true → or_default places ≡ places
no-default [] h = cc
no-default (first ∷ more) h = refl

lower-headers : (places : List TokenPlace) → list_all place_is_printable places ≡ true
    → list_all (λ (header : List ℕ × List ℕ). is_lower_token header.0) (filter_map header_of places) ≡ true
lower-headers [] h = refl
lower-headers (place.Header name prefix ∷ places) h =
    ap₂ (λ (a b : Bool). a && b) (and_parts _ _ h).0 (lower-headers places (and_parts _ _ h).1)
lower-headers (place.Param name ∷ places) h = lower-headers places h

-- a header is read as its name and its prefix
abbrev header-in : Data → List ℕ × List ℕ
header-in d = (required_written_in NAME.now text_in d, unwrap_or (optional_written_in VALUE_PREFIX.now text_in d) [])

header-back : (header : List ℕ × List ℕ) → is_lower_token header.0 ≡ true
    → Back from_header_faults header-in (from_header_written header) header
unfolding from_header_faults from_header_written is_known
header-back header h =
    let fs = field NAME.now (string header.0) ∷ text_field VALUE_PREFIX.now header.1 ∷ [] in
    let name = get-object NAME.now fs refl in
    let known = tested-back is_lower_token reason.BadForm header.0 h in
    let prefix = text-field-back VALUE_PREFIX.now (object_of fs) header.1 (get-object VALUE_PREFIX.now fs refl) in
    record {
      passes = strict-object (NAME.now ∷ VALUE_PREFIX.now ∷ []) _ fs refl
          (both (required-passes NAME.now lower_token_faults (object_of fs) (string header.0) name known.passes) prefix.passes);
      back = ap₂ (λ (a b : List ℕ). (a, b))
          (required-back NAME.now text_in (object_of fs) (string header.0) name ∙ known.back) prefix.back;
    }

-- a list is read as its entries are, and each of these as told
each-map : {A B : Type 0} (g : A → B) (value : Data → A) (ds : Items) → each_in (λ d. g (value d)) ds ≡ map g (each_in value ds)
each-map g value no_items = refl
each-map g value (item d ds) = ap (λ bs. g (value d) ∷ bs) (each-map g value ds)

found-map : {A B : Type 0} (g : A → B) (value : Data → A) (o : Option Data)
    → found_list (λ d. g (value d)) o ≡ map g (found_list value o)
unfolding list_in
found-map g value None = refl
found-map g value (Some d) = each-map g value (kinds.items_of d)

listed-map : {A B : Type 0} (g : A → B) (value : Data → A) (name : List ℕ) (d : Data)
    → listed_written_in name (λ v. g (value v)) d ≡ map g (listed_written_in name value d)
unfolding listed_written_in
listed-map g value name d = found-map g value (get name d)

module _ (d : Data) (places : List TokenPlace) (printable : places_are_printable places ≡ true)
    (headers : get FROM_HEADERS.now d ≡ (list_field FROM_HEADERS.now from_header_written (filter_map header_of places)).1)
    (params : get FROM_PARAMS.now d ≡ (list_field FROM_PARAMS.now string (filter_map param_of places)).1) where
  headers-back : Back (listed_written FROM_HEADERS.now most_entries from_header_faults) (listed_written_in FROM_HEADERS.now header-in) d
      (filter_map header_of places)
  headers-back =
      let three = and_parts _ _ (and_parts _ _ printable).0 in
      listed-back FROM_HEADERS.now from_header_faults header-in from_header_written (λ header. is_lower_token header.0) header-back d
      (filter_map header_of places) headers three.1 (lower-headers places (and_parts _ _ three.0).1)

  params-back : Back (listed_written FROM_PARAMS.now most_entries text_faults) (listed_written_in FROM_PARAMS.now text_in) d
      (filter_map param_of places)
  params-back = texts-back FROM_PARAMS.now d (filter_map param_of places) params (and_parts _ _ printable).1

  places-back : places_in d ≡ places
  unfolding places_in from_header_in from_param_in
  places-back =
      let these = and_parts _ _ (and_parts _ _ (and_parts _ _ (and_parts _ _ printable).0).0).0 in
      let hs = listed-map header-place header-in FROM_HEADERS.now d ∙ ap (map header-place) headers-back.back in
      let ps = listed-map param-place text_in FROM_PARAMS.now d ∙ ap (map param-place) params-back.back in
      ap or_default (ap₂ (λ (some more : List TokenPlace). some ++ more) hs ps ∙ in-two places these.1) ∙ no-default places these.0

-- ---- an object of one field

pub sole-field-back : {A : Type 0} (name : List ℕ) (f : Check) (value : Data → A) (d : Data) (a : A) → Back f value d a
    → Back (strict (name ∷ []) (required_written name f)) (required_written_in name value) (sole_field name d) a
unfolding is_known
sole-field-back name f value d a known =
    let fs = field name d ∷ [] in
    let there : get name (object_of fs) ≡ Some d = get-object name fs refl ∙ rw (same-text name) refl in
    record {
      passes = strict-object (name ∷ []) (required_written name f) fs (rw (same-text name) refl)
          (required-passes name f (object_of fs) d there known.passes);
      back = required-back name value (object_of fs) d there ∙ known.back;
    }

-- ---- the key set

-- the fields of a key set
abbrev local-of : Keys → Option Data
local-of (Inline set) = Some (sole_field INLINE_STRING.now (string set))
local-of (Uri uri) = None

abbrev remote-of : Keys → Option Data
remote-of (Inline set) = None
remote-of (Uri uri) = Some (sole_field HTTP_URI.now (keys_uri_written uri))

local-back : (set : List ℕ) → Back local_keys_faults local_keys_in (sole_field INLINE_STRING.now (string set)) (Inline set)
unfolding local_keys_faults local_keys_in
local-back set =
    let known = sole-field-back INLINE_STRING.now text_faults text_in (string set) set (text-back set) in
    record { passes = known.passes; back = ap (λ t. Inline t) known.back }

uri-back : (uri : List ℕ) → Back keys_uri_faults (required_written_in URI.now text_in) (keys_uri_written uri) uri
unfolding keys_uri_faults keys_uri_written is_known
uri-back uri =
    let fs = field CLUSTER.now (string KEYS_CLUSTER.now) ∷ field TIMEOUT.now (string KEYS_TIME.now) ∷ field URI.now (string uri) ∷ [] in
    let here = get-object URI.now fs refl in
    let cluster = required-passes CLUSTER.now (fixed_faults KEYS_CLUSTER.now) (object_of fs) (string KEYS_CLUSTER.now)
    (get-object CLUSTER.now fs refl) (fixed-passes KEYS_CLUSTER.now) in
    let time = required-passes TIMEOUT.now (fixed_faults KEYS_TIME.now) (object_of fs) (string KEYS_TIME.now)
    (get-object TIMEOUT.now fs refl) (fixed-passes KEYS_TIME.now) in
    let place = required-passes URI.now text_faults (object_of fs) (string uri) here (text-passes uri) in
    record {
      passes = strict-object (CLUSTER.now ∷ TIMEOUT.now ∷ URI.now ∷ []) _ fs refl (both cluster (both time place));
      back = required-back URI.now text_in (object_of fs) (string uri) here ∙ (text-back uri).back;
    }

remote-back : (uri : List ℕ) → Back remote_keys_faults remote_keys_in (sole_field HTTP_URI.now (keys_uri_written uri)) (Uri uri)
unfolding remote_keys_faults remote_keys_in
remote-back uri =
    let url_in = required_written_in URI.now text_in in
    let known = sole-field-back HTTP_URI.now keys_uri_faults url_in (keys_uri_written uri) uri (uri-back uri) in
    record { passes = known.passes; back = ap (λ t. Uri t) known.back }

record KeysBack (d : Data) (keys : Keys) : Type 0 where
  one : Passes (one_of (LOCAL_JWKS.now ∷ REMOTE_JWKS.now ∷ [])) d
  locally : Passes (optional_written LOCAL_JWKS.now local_keys_faults) d
  remotely : Passes (optional_written REMOTE_JWKS.now remote_keys_faults) d
  back : keys_in d ≡ keys

keys-back : (d : Data) (keys : Keys) → get LOCAL_JWKS.now d ≡ local-of keys → get REMOTE_JWKS.now d ≡ remote-of keys → KeysBack d keys
unfolding keys_in optional_written_in
keys-back d (Inline set) l r =
    let known = local-back set in
    record {
      one = one-passes (LOCAL_JWKS.now ∷ REMOTE_JWKS.now ∷ []) d (rw (l, r) refl);
      locally = optional-passes LOCAL_JWKS.now local_keys_faults d (sole_field INLINE_STRING.now (string set)) l known.passes;
      remotely = absent-passes REMOTE_JWKS.now remote_keys_faults d r;
      back = rw l known.back;
    }
keys-back d (Uri uri) l r =
    let known = remote-back uri in
    record {
      one = one-passes (LOCAL_JWKS.now ∷ REMOTE_JWKS.now ∷ []) d (rw (l, r) refl);
      locally = absent-passes LOCAL_JWKS.now local_keys_faults d l;
      remotely = optional-passes REMOTE_JWKS.now remote_keys_faults d (sole_field HTTP_URI.now (keys_uri_written uri)) r known.passes;
      back = rw l (required-back REMOTE_JWKS.now remote_keys_in d (sole_field HTTP_URI.now (keys_uri_written uri)) r ∙ known.back);
    }

-- ---- the provider

-- the fields of a rule, beside that of its keys
abbrev rule-fields : JwtRule → Field → List Field
rule-fields rule keys =
    list_field AUDIENCES.now string rule.audiences
    ∷ truth_field FORWARD.now rule.forward
    ∷ optional_field FORWARD_PAYLOAD_HEADER.now string rule.payload_header
    ∷ list_field FROM_HEADERS.now from_header_written (filter_map header_of rule.places)
    ∷ list_field FROM_PARAMS.now string (filter_map param_of rule.places)
    ∷ field ISSUER.now (string rule.issuer)
    ∷ keys
    ∷ field PAYLOAD_IN_METADATA.now (string PAYLOAD.now)
    ∷ []

abbrev rule-names : List (List ℕ)
rule-names = AUDIENCES.now ∷ FORWARD.now ∷ FORWARD_PAYLOAD_HEADER.now ∷ FROM_HEADERS.now ∷ FROM_PARAMS.now ∷ ISSUER.now
    ∷ LOCAL_JWKS.now ∷ PAYLOAD_IN_METADATA.now ∷ REMOTE_JWKS.now ∷ []

-- what stands in an object of these fields
record Gets (rule : JwtRule) (keys : Keys) (fs : List Field) : Type 0 where
  known : list_all (λ f. is_known rule-names f.0) fs ≡ true
  audiences : get AUDIENCES.now (object_of fs) ≡ (list_field AUDIENCES.now string rule.audiences).1
  forward : get FORWARD.now (object_of fs) ≡ (truth_field FORWARD.now rule.forward).1
  payload_header : get FORWARD_PAYLOAD_HEADER.now (object_of fs) ≡ option_map string rule.payload_header
  headers : get FROM_HEADERS.now (object_of fs)
      ≡ (list_field FROM_HEADERS.now from_header_written (filter_map header_of rule.places)).1
  params : get FROM_PARAMS.now (object_of fs) ≡ (list_field FROM_PARAMS.now string (filter_map param_of rule.places)).1
  issuer : get ISSUER.now (object_of fs) ≡ Some (string rule.issuer)
  locally : get LOCAL_JWKS.now (object_of fs) ≡ local-of keys
  payload : get PAYLOAD_IN_METADATA.now (object_of fs) ≡ Some (string PAYLOAD.now)
  remotely : get REMOTE_JWKS.now (object_of fs) ≡ remote-of keys

gets : (rule : JwtRule) (keys : Keys) → Gets rule keys (rule-fields rule (keys_field keys))
unfolding is_known
gets rule (Inline set) =
    let fs = rule-fields rule (keys_field (Inline set)) in
    record {
      known = refl;
      audiences = get-object AUDIENCES.now fs refl;
      forward = get-object FORWARD.now fs refl;
      payload_header = get-object FORWARD_PAYLOAD_HEADER.now fs refl;
      headers = get-object FROM_HEADERS.now fs refl;
      params = get-object FROM_PARAMS.now fs refl;
      issuer = get-object ISSUER.now fs refl;
      locally = get-object LOCAL_JWKS.now fs refl;
      payload = get-object PAYLOAD_IN_METADATA.now fs refl;
      remotely = get-object REMOTE_JWKS.now fs refl;
    }
gets rule (Uri uri) =
    let fs = rule-fields rule (keys_field (Uri uri)) in
    record {
      known = refl;
      audiences = get-object AUDIENCES.now fs refl;
      forward = get-object FORWARD.now fs refl;
      payload_header = get-object FORWARD_PAYLOAD_HEADER.now fs refl;
      headers = get-object FROM_HEADERS.now fs refl;
      params = get-object FROM_PARAMS.now fs refl;
      issuer = get-object ISSUER.now fs refl;
      locally = get-object LOCAL_JWKS.now fs refl;
      payload = get-object PAYLOAD_IN_METADATA.now fs refl;
      remotely = get-object REMOTE_JWKS.now fs refl;
    }

payload-all : (o : Option (List ℕ)) → payload_header_is_printable o ≡ true → option-all is_lower_token o ≡ true
payload-all None h = refl
payload-all (Some name) h = h

module _ (rule : JwtRule) (fs : List Field) (found : Gets rule rule.keys fs) (short : is_short_list rule.audiences ≡ true)
    (places : places_are_printable rule.places ≡ true) (payload : payload_header_is_printable rule.payload_header ≡ true) where
  audiences-back : Back (listed_written AUDIENCES.now most_entries text_faults) (listed_written_in AUDIENCES.now text_in) (object_of fs)
      rule.audiences
  audiences-back = texts-back AUDIENCES.now (object_of fs) rule.audiences found.audiences short

  forward-back : Back (optional_written FORWARD.now truth_faults) (λ v. unwrap_or (optional_written_in FORWARD.now truth_in v) false)
      (object_of fs) rule.forward
  forward-back = truth-field-back FORWARD.now (object_of fs) rule.forward found.forward

  payload-back : Back (optional_written FORWARD_PAYLOAD_HEADER.now lower_token_faults)
      (optional_written_in FORWARD_PAYLOAD_HEADER.now text_in) (object_of fs) rule.payload_header
  payload-back = optional-field-back FORWARD_PAYLOAD_HEADER.now lower_token_faults text_in string is_lower_token
      (tested-back is_lower_token reason.BadForm) (object_of fs) rule.payload_header found.payload_header
      (payload-all rule.payload_header payload)

  tokens-pass : Passes token_fields_faults (object_of fs)
  tokens-pass =
      let headers = headers-back (object_of fs) rule.places places found.headers found.params in
      let params = params-back (object_of fs) rule.places places found.headers found.params in
      both audiences-back.passes (both forward-back.passes (both payload-back.passes (both headers.passes params.passes)))

  fields-pass : (name : List ℕ) → Passes (provider_faults name) (object_of fs)
  unfolding provider_faults
  fields-pass name =
      let keys = keys-back (object_of fs) rule.keys found.locally found.remotely in
      let issuer = required-passes ISSUER.now text_faults (object_of fs) (string rule.issuer) found.issuer (text-passes rule.issuer) in
      let fixed = required-passes PAYLOAD_IN_METADATA.now (fixed_faults PAYLOAD.now) (object_of fs) (string PAYLOAD.now) found.payload
      (fixed-passes PAYLOAD.now) in
      strict-object rule-names _ fs found.known
      (both keys.one (both tokens-pass (both issuer (both keys.locally (both fixed keys.remotely)))))

  fields-back : (name : List ℕ) → provider_in name (object_of fs) ≡ record { name = name; rule = rule }
  unfolding provider_in provider_rule_in
  fields-back name =
      let issuer = required-back ISSUER.now text_in (object_of fs) (string rule.issuer) found.issuer ∙ (text-back rule.issuer).back in
      let keys = keys-back (object_of fs) rule.keys found.locally found.remotely in
      let where-found = places-back (object_of fs) rule.places places found.headers found.params in
      rw (issuer, audiences-back.back, keys.back, where-found, forward-back.back, payload-back.back) refl

-- a printable provider is read back under its name
pub provider-back : (p : Provider) → provider_is_printable p ≡ true
    → Back (provider_faults p.name) (provider_in p.name) (provider_written p) p
unfolding provider_is_printable provider_written
provider-back p h =
    let two = and_parts _ _ (and_parts _ _ h).0 in
    let found = gets p.rule p.rule.keys in
    let fs = rule-fields p.rule (keys_field p.rule.keys) in
    record {
      passes = fields-pass p.rule fs found two.0 two.1 (and_parts _ _ h).1 p.name;
      back = fields-back p.rule fs found two.0 two.1 (and_parts _ _ h).1 p.name;
    }
