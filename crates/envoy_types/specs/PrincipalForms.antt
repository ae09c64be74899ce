-- The JSON of principals (Envoy v3 API reference, `config.rbac.v3.Principal`).
use Rattle.std.specs.Prelude.{ℕ, Bool, true, List, [], ◌∷◌, Option, Some, None, if◌then◌else◌}
use Rattle.std.specs.Str.{bytes_eq}
use Rattle.serde_json.specs.Data.{Data}
use Rattle.mesh_doc.specs.Faults.{Check}
use Rattle.mesh_doc.specs.Fields.{strict, optional_written, optional_written_in, required_written_in}
use Rattle.envoy_types.specs.BlockForms.{block_faults, block_in, block_is_printable, block_written}
use Rattle.envoy_types.specs.HeaderForms.{header_faults, header_in, header_is_printable, header_written}
use Rattle.envoy_types.specs.StringForms.{string_faults, string_in, string_is_printable, string_written}
use Rattle.envoy_types.specs.TreeForms.{TreeForm}
use Rattle.envoy_types.specs.ValueForms.{metadata_faults, metadata_is_printable, metadata_written, path_in, value_in}
use Rattle.envoy_types.specs.WrittenFields.{object_of, optional_field, sole_field}
use Rattle.envoy_types.specs.declared.keys.TheConstants.{AND_IDS, OR_IDS, IDS, NOT_ID}
use Rattle.envoy_types.specs.declared.keys.TheConstants.{AUTHENTICATED, DIRECT_REMOTE_IP, HEADER, METADATA, PRINCIPAL_NAME, REMOTE_IP}
use Rattle.envoy_types.specs.declared.keys.TheConstants.{PATH, VALUE}
use Rattle.envoy_types.specs.declared.principal.PrincipalLeaf.{PrincipalLeaf}
use Rattle.envoy_types.specs.declared.principal.PrincipalLeaf.TheVariants as leaf
use Rattle.envoy_types.specs.declared.strings.StringMatcher.{StringMatcher}

-- ---- a peer that is known

-- `Principal.Authenticated`: with a matcher of its name, or without one
unfoldable pub authenticated_faults : Check
authenticated_faults = strict (PRINCIPAL_NAME.now ∷ []) (optional_written PRINCIPAL_NAME.now string_faults)

-- the matcher of its name, if there is one
unfoldable pub authenticated_in : Data → Option StringMatcher
authenticated_in d = optional_written_in PRINCIPAL_NAME.now string_in d

-- an object with the matcher, or without a field
unfoldable pub authenticated_written : Option StringMatcher → Data
authenticated_written name = object_of (optional_field PRINCIPAL_NAME.now string_written name ∷ [])

-- no matcher, or one that can be written
abbrev pub authenticated_is_printable : Option StringMatcher → Bool
authenticated_is_printable None = true
authenticated_is_printable (Some m) = string_is_printable m

-- ---- leaves

-- the alternatives that are leaves
abbrev pub principal_leaves : List (List ℕ)
principal_leaves = AUTHENTICATED.now ∷ DIRECT_REMOTE_IP.now ∷ HEADER.now ∷ METADATA.now ∷ REMOTE_IP.now ∷ []

-- each alternative has its form
unfoldable pub principal_leaf_faults : List ℕ → Check
principal_leaf_faults key =
    if bytes_eq key AUTHENTICATED.now then authenticated_faults
    else if bytes_eq key DIRECT_REMOTE_IP.now then block_faults
    else if bytes_eq key HEADER.now then header_faults
    else if bytes_eq key METADATA.now then metadata_faults
    else block_faults

-- the leaf that it means
unfoldable pub principal_leaf_in : List ℕ → Data → PrincipalLeaf
principal_leaf_in key d =
    if bytes_eq key AUTHENTICATED.now then leaf.Authenticated (authenticated_in d)
    else if bytes_eq key DIRECT_REMOTE_IP.now then leaf.DirectRemoteIp (block_in d)
    else if bytes_eq key HEADER.now then leaf.Header (header_in d)
    else if bytes_eq key METADATA.now then leaf.Metadata (required_written_in PATH.now path_in d) (required_written_in VALUE.now value_in d)
    else leaf.RemoteIp (block_in d)

-- each leaf under the name of its alternative
unfoldable pub principal_leaf_written : PrincipalLeaf → Data
principal_leaf_written (leaf.Authenticated name) = sole_field AUTHENTICATED.now (authenticated_written name)
principal_leaf_written (leaf.DirectRemoteIp block) = sole_field DIRECT_REMOTE_IP.now (block_written block)
principal_leaf_written (leaf.RemoteIp block) = sole_field REMOTE_IP.now (block_written block)
principal_leaf_written (leaf.Header h) = sole_field HEADER.now (header_written h)
principal_leaf_written (leaf.Metadata keys value) = sole_field METADATA.now (metadata_written keys value)

-- what the form of each alternative asks
unfoldable pub principal_leaf_is_printable : PrincipalLeaf → Bool
principal_leaf_is_printable (leaf.Authenticated name) = authenticated_is_printable name
principal_leaf_is_printable (leaf.DirectRemoteIp block) = block_is_printable block
principal_leaf_is_printable (leaf.RemoteIp block) = block_is_printable block
principal_leaf_is_printable (leaf.Header h) = header_is_printable h
principal_leaf_is_printable (leaf.Metadata keys value) = metadata_is_printable keys value

-- ---- trees

-- the words and leaves of principals
abbrev pub principal_form : TreeForm PrincipalLeaf
principal_form = record {
  and_name = AND_IDS.now;
  or_name = OR_IDS.now;
  parts_name = IDS.now;
  not_name = NOT_ID.now;
  leaf_names = principal_leaves;
  leaf_faults = principal_leaf_faults;
  leaf_in = principal_leaf_in;
  leaf_written = principal_leaf_written;
  leaf_is_printable = principal_leaf_is_printable;
}
