-- Where a rule finds its tokens (Istio reference, JWTRule: `fromHeaders` and `fromParams`).
use Rattle.std.specs.Prelude.{List, [], ◌∷◌, ◌++◌, unwrap_or}
use Rattle.serde_json.specs.Data.{Data}
use Rattle.mesh_doc.specs.Faults.{Check, ◌⨾◌}
use Rattle.mesh_doc.specs.Fields.{strict, required, required_in, optional, optional_in}
use Rattle.mesh_doc.specs.Kinds.{text_in}
use Rattle.mesh_policy.specs.Jwt.{or_default}
use Rattle.mesh_policy.specs.declared.jwt.TokenPlace.{TokenPlace}
use Rattle.mesh_policy.specs.declared.jwt.TokenPlace.TheVariants as place
use Rattle.policy_json.specs.Texts.{bounded_text_faults, lower_name_faults, lower_name_in, short_text_faults}
use Rattle.policy_json.specs.declared.token_places.TheConstants.{NAME, PREFIX}

-- JWTHeader: a header, and the prefix before the token, which is empty where none is written
unfoldable pub header_faults : Check
header_faults = strict (NAME.now ∷ PREFIX.now ∷ [])
    (required NAME.now lower_name_faults
    ⨾ optional PREFIX.now bounded_text_faults)

-- the header and its prefix
unfoldable pub header_in : Data → TokenPlace
header_in d = place.Header (required_in NAME.now lower_name_in d) (unwrap_or (optional_in PREFIX.now text_in d) [])

-- an entry of `fromParams`: the name of a parameter
unfoldable pub param_faults : Check
param_faults = short_text_faults

-- the parameter
unfoldable pub param_in : Data → TokenPlace
param_in d = place.Param (text_in d)

-- the headers, and then the parameters; or the default ones
abbrev pub places_of : List TokenPlace → List TokenPlace → List TokenPlace
places_of headers params = or_default (headers ++ params)
