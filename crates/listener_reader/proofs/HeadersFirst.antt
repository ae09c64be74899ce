-- The places of a provider: one at least, and headers before parameters.
use Rattle.std.proofs.Common.{◌≡◌, ◌++◌, true, List, [], ◌∷◌, length, Option, Some, None, IsTrue, refl}
use Rattle.std.specs.List.{list_all}
use Rattle.serde_json.specs.Data.{Data, Items, no_items, item}
use Rattle.mesh_doc.specs.Kinds.{items_of}
use Rattle.mesh_doc.specs.Lists.{each_in, found_list, list_in, listed_written_in}
use Rattle.serde_json.specs.Find.{get}
use Rattle.mesh_policy.specs.AcceptedTokens.{has_headers_first, is_param}
use Rattle.mesh_policy.specs.Jwt.{or_default}
use Rattle.mesh_policy.specs.declared.jwt.TokenPlace.{TokenPlace}
use Rattle.envoy_types.proofs.PartsBack.{not-zero}
use Rattle.envoy_types.specs.Order.{are_places}
use Rattle.envoy_types.specs.ProviderForms.{from_header_in, from_param_in, places_in}
use Rattle.envoy_types.specs.declared.keys.TheConstants.{FROM_HEADERS, FROM_PARAMS}

-- ---- parameters alone

all-params : (ds : Items) → list_all is_param (each_in from_param_in ds) ≡ true
unfolding from_param_in
all-params no_items = refl
all-params (item d ds) = all-params ds

params-first : (ds : Items) → has_headers_first (each_in from_param_in ds) ≡ true
unfolding from_param_in
params-first no_items = refl
params-first (item d ds) = all-params ds

params-found : (o : Option Data) → has_headers_first (found_list from_param_in o) ≡ true
unfolding list_in
params-found None = refl
params-found (Some d) = params-first (items_of d)

-- ---- headers in front

headers-first : (ds : Items) (places : List TokenPlace) → has_headers_first places ≡ true
    → has_headers_first (each_in from_header_in ds ++ places) ≡ true
unfolding from_header_in
headers-first no_items places h = h
headers-first (item d ds) places h = headers-first ds places h

headers-found : (o : Option Data) (places : List TokenPlace) → has_headers_first places ≡ true
    → has_headers_first (found_list from_header_in o ++ places) ≡ true
unfolding list_in
headers-found None places h = h
headers-found (Some d) places h = headers-first (items_of d) places h

-- ---- and the default ones where there is none

or-default : (places : List TokenPlace) → has_headers_first places ≡ true → are_places (or_default places) ≡ true
or-default [] h = refl
or-default (first ∷ more) h = rw (not-zero (length more)) h

pub places-ordered : (d : Data) → IsTrue (are_places (places_in d))
unfolding places_in listed_written_in
places-ordered d =
    or-default (found_list from_header_in (get FROM_HEADERS.now d) ++ found_list from_param_in (get FROM_PARAMS.now d))
    (headers-found (get FROM_HEADERS.now d) (found_list from_param_in (get FROM_PARAMS.now d)) (params-found (get FROM_PARAMS.now d)))
