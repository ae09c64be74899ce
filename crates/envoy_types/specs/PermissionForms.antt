-- The JSON of permissions (Envoy v3 API reference, `config.rbac.v3.Permission`).
use Rattle.std.specs.Prelude.{ℕ, Bool, List, [], ◌∷◌, if◌then◌else◌}
use Rattle.std.specs.Str.{bytes_eq}
use Rattle.serde_json.specs.Data.{Data, string}
use Rattle.mesh_doc.specs.Faults.{Check, ◌⨾◌}
use Rattle.mesh_doc.specs.Fields.{strict, required_written, required_written_in}
use Rattle.mesh_doc.specs.Kinds.{number_in, text_in}
use Rattle.mesh_doc.specs.Tested.{tested}
use Rattle.mesh_doc.specs.declared.reason.Reason.TheVariants as reason
use Rattle.mesh_policy.specs.Template.{is_uri}
use Rattle.envoy_types.specs.BlockForms.{block_faults, block_in, block_is_printable, block_written}
use Rattle.envoy_types.specs.HeaderForms.{header_faults, header_in, header_is_printable, header_written}
use Rattle.envoy_types.specs.SmallForms.{any_port_faults, config_in, is_within, named_faults, type_faults}
use Rattle.envoy_types.specs.StringForms.{string_faults, string_in, string_is_printable, string_written}
use Rattle.envoy_types.specs.TreeForms.{TreeForm}
use Rattle.envoy_types.specs.WrittenFields.{config_written, field, named_written, number_written, sole_field}
use Rattle.envoy_types.specs.declared.keys.TheConstants.{AND_RULES, OR_RULES, RULES, NOT_RULE, TYPE}
use Rattle.envoy_types.specs.declared.keys.TheConstants.{DESTINATION_IP, DESTINATION_PORT, HEADER, PATH, PATH_TEMPLATE}
use Rattle.envoy_types.specs.declared.keys.TheConstants.{SERVER_NAME, URI_TEMPLATE, URL_PATH}
use Rattle.envoy_types.specs.declared.names.TheConstants.{URI_TEMPLATE_NAME, URI_TEMPLATE_TYPE}
use Rattle.envoy_types.specs.declared.permission.PermissionLeaf.{PermissionLeaf}
use Rattle.envoy_types.specs.declared.permission.PermissionLeaf.TheVariants as leaf

-- ---- the path of a request

-- `type.matcher.v3.PathMatcher`
unfoldable pub url_path_faults : Check
url_path_faults = strict (PATH.now ∷ []) (required_written PATH.now string_faults)

-- a template in Envoy's way of writing: `*` and `**` as operators
abbrev pub template_faults : Check
template_faults = tested is_uri reason.BadForm

-- `extensions.path.match.uri_template.v3.UriTemplateMatchConfig`
unfoldable pub template_config_faults : Check
template_config_faults =
    strict (TYPE.now ∷ PATH_TEMPLATE.now ∷ [])
    (type_faults URI_TEMPLATE_TYPE.now
    ⨾ required_written PATH_TEMPLATE.now template_faults)

-- the matcher of templates under its name
abbrev pub uri_template_faults : Check
uri_template_faults = named_faults URI_TEMPLATE_NAME.now template_config_faults

-- a template is known by its text
unfoldable pub uri_template_in : Data → List ℕ
uri_template_in = config_in (required_written_in PATH_TEMPLATE.now text_in)

-- a template under the name of the matcher
unfoldable pub uri_template_written : List ℕ → Data
uri_template_written uri =
    named_written URI_TEMPLATE_NAME.now (config_written URI_TEMPLATE_TYPE.now (field PATH_TEMPLATE.now (string uri) ∷ []))

-- ---- leaves

-- the alternatives that are leaves
abbrev pub permission_leaves : List (List ℕ)
permission_leaves =
    DESTINATION_IP.now ∷ DESTINATION_PORT.now ∷ HEADER.now ∷ SERVER_NAME.now ∷ URI_TEMPLATE.now ∷ URL_PATH.now ∷ []

-- each alternative has its form
unfoldable pub permission_leaf_faults : List ℕ → Check
permission_leaf_faults key =
    if bytes_eq key DESTINATION_IP.now then block_faults
    else if bytes_eq key DESTINATION_PORT.now then any_port_faults
    else if bytes_eq key HEADER.now then header_faults
    else if bytes_eq key SERVER_NAME.now then string_faults
    else if bytes_eq key URI_TEMPLATE.now then uri_template_faults
    else url_path_faults

-- the leaf that it means
unfoldable pub permission_leaf_in : List ℕ → Data → PermissionLeaf
permission_leaf_in key d =
    if bytes_eq key DESTINATION_IP.now then leaf.DestinationIp (block_in d)
    else if bytes_eq key DESTINATION_PORT.now then leaf.DestinationPort (number_in d)
    else if bytes_eq key HEADER.now then leaf.Header (header_in d)
    else if bytes_eq key SERVER_NAME.now then leaf.ServerName (string_in d)
    else if bytes_eq key URI_TEMPLATE.now then leaf.UriTemplate (uri_template_in d)
    else leaf.UrlPath (required_written_in PATH.now string_in d)

-- each leaf under the name of its alternative
unfoldable pub permission_leaf_written : PermissionLeaf → Data
permission_leaf_written (leaf.DestinationIp block) = sole_field DESTINATION_IP.now (block_written block)
permission_leaf_written (leaf.DestinationPort port) = sole_field DESTINATION_PORT.now (number_written port)
permission_leaf_written (leaf.Header h) = sole_field HEADER.now (header_written h)
permission_leaf_written (leaf.ServerName m) = sole_field SERVER_NAME.now (string_written m)
permission_leaf_written (leaf.UriTemplate uri) = sole_field URI_TEMPLATE.now (uri_template_written uri)
permission_leaf_written (leaf.UrlPath m) = sole_field URL_PATH.now (sole_field PATH.now (string_written m))

-- a port in its range, and what the form of each other alternative asks
unfoldable pub permission_leaf_is_printable : PermissionLeaf → Bool
permission_leaf_is_printable (leaf.DestinationIp block) = block_is_printable block
permission_leaf_is_printable (leaf.DestinationPort port) = is_within 0 65535 port
permission_leaf_is_printable (leaf.Header h) = header_is_printable h
permission_leaf_is_printable (leaf.ServerName m) = string_is_printable m
permission_leaf_is_printable (leaf.UriTemplate uri) = is_uri uri
permission_leaf_is_printable (leaf.UrlPath m) = string_is_printable m

-- ---- trees

-- the words and leaves of permissions
abbrev pub permission_form : TreeForm PermissionLeaf
permission_form = record {
  and_name = AND_RULES.now;
  or_name = OR_RULES.now;
  parts_name = RULES.now;
  not_name = NOT_RULE.now;
  leaf_names = permission_leaves;
  leaf_faults = permission_leaf_faults;
  leaf_in = permission_leaf_in;
  leaf_written = permission_leaf_written;
  leaf_is_printable = permission_leaf_is_printable;
}
