-- A leaf of permissions that is written is read back.
use Rattle.std.proofs.Common.{◌≡◌, ℕ, true, List, [], ◌∷◌, refl}
use Rattle.serde_json.specs.Data.{Data, string}
use Rattle.mesh_doc.specs.Fields.{required_written, required_written_in}
use Rattle.mesh_doc.specs.Kinds.{object_faults, text_in}
use Rattle.mesh_doc.specs.Known.{is_known, unknown_faults}
use Rattle.mesh_doc.specs.Places.{at_key}
use Rattle.mesh_doc.specs.declared.reason.Reason.TheVariants as reason
use Rattle.mesh_policy.specs.Template.{is_uri}
use Rattle.envoy_types.proofs.BlocksBack.{block-back}
use Rattle.envoy_types.proofs.HeadersBack.{header-back}
use Rattle.envoy_types.proofs.LeavesBack.{as-leaf, leaf-reads-back, leaf-writes}
use Rattle.envoy_types.proofs.PartsBack.{Back, fixed-passes, named-back, number-within-back, tested-back}
use Rattle.envoy_types.proofs.StringsBack.{string-back}
use Rattle.envoy_types.specs.PermissionForms.{permission_form, permission_leaf_faults, permission_leaf_in, permission_leaf_is_printable}
use Rattle.envoy_types.specs.PermissionForms.{permission_leaf_written, template_config_faults, uri_template_faults}
use Rattle.envoy_types.specs.PermissionForms.{uri_template_in, uri_template_written, url_path_faults}
use Rattle.envoy_types.specs.StringForms.{string_faults, string_in, string_written}
use Rattle.envoy_types.specs.TreeForms.{HasOwnNames, ReadsBack, WritesLeaf}
use Rattle.envoy_types.specs.WrittenFields.{config_written, field, sole_field}
use Rattle.envoy_types.specs.declared.keys.TheConstants.{DESTINATION_IP, DESTINATION_PORT, HEADER, PATH, PATH_TEMPLATE}
use Rattle.envoy_types.specs.declared.keys.TheConstants.{SERVER_NAME, TYPE, URI_TEMPLATE, URL_PATH}
use Rattle.envoy_types.specs.declared.names.TheConstants.{URI_TEMPLATE_NAME, URI_TEMPLATE_TYPE}
use Rattle.envoy_types.specs.declared.permission.PermissionLeaf.{PermissionLeaf}
use Rattle.envoy_types.specs.declared.permission.PermissionLeaf.TheVariants as leaf
use Rattle.envoy_types.specs.declared.strings.StringMatcher.{StringMatcher}

-- ---- the path of a request

url-path-back : (d : Data) (m : StringMatcher) → Back string_faults string_in d m
    → Back url_path_faults (required_written_in PATH.now string_in) (sole_field PATH.now d) m
unfolding url_path_faults required_written required_written_in unknown_faults object_faults is_known
url-path-back d m known = record {
  passes = record { clean = λ at. rw (known.passes.clean (at_key PATH.now at)) refl };
  back = known.back;
}

-- the configuration of a template
config-back : (uri : List ℕ) → is_uri uri ≡ true
    → Back template_config_faults (required_written_in PATH_TEMPLATE.now text_in)
    (config_written URI_TEMPLATE_TYPE.now (field PATH_TEMPLATE.now (string uri) ∷ [])) uri
unfolding template_config_faults required_written required_written_in unknown_faults object_faults is_known
config-back uri h =
    let type = fixed-passes URI_TEMPLATE_TYPE.now in
    let text = tested-back is_uri reason.BadForm uri h in
    record {
      passes = record { clean = λ at. rw (type.clean (at_key TYPE.now at), text.passes.clean (at_key PATH_TEMPLATE.now at)) refl };
      back = text.back;
    }

template-back : (uri : List ℕ) → is_uri uri ≡ true → Back uri_template_faults uri_template_in (uri_template_written uri) uri
unfolding uri_template_in uri_template_written
template-back uri h =
    named-back URI_TEMPLATE_NAME.now template_config_faults (required_written_in PATH_TEMPLATE.now text_in) _ uri (config-back uri h)

-- ---- leaves

pub permission-reads-back : (l : PermissionLeaf) → permission_form.leaf_is_printable l ≡ true → ReadsBack permission_form l
unfolding permission_leaf_faults permission_leaf_in permission_leaf_written permission_leaf_is_printable
permission-reads-back (leaf.DestinationIp block) h =
    leaf-reads-back permission_form (leaf.DestinationIp block) DESTINATION_IP.now _ refl (as-leaf leaf.DestinationIp (block-back block h))
permission-reads-back (leaf.DestinationPort port) h =
    leaf-reads-back permission_form (leaf.DestinationPort port) DESTINATION_PORT.now _ refl
    (as-leaf leaf.DestinationPort (number-within-back 0 65535 port h))
permission-reads-back (leaf.Header m) h =
    leaf-reads-back permission_form (leaf.Header m) HEADER.now _ refl (as-leaf leaf.Header (header-back m h))
permission-reads-back (leaf.ServerName m) h =
    leaf-reads-back permission_form (leaf.ServerName m) SERVER_NAME.now _ refl (as-leaf leaf.ServerName (string-back m h))
permission-reads-back (leaf.UriTemplate uri) h =
    leaf-reads-back permission_form (leaf.UriTemplate uri) URI_TEMPLATE.now _ refl (as-leaf leaf.UriTemplate (template-back uri h))
permission-reads-back (leaf.UrlPath m) h =
    leaf-reads-back permission_form (leaf.UrlPath m) URL_PATH.now _ refl
    (as-leaf leaf.UrlPath (url-path-back (string_written m) m (string-back m h)))

pub permission-writes : (l : PermissionLeaf) → WritesLeaf permission_form l
unfolding permission_leaf_written is_known
permission-writes (leaf.DestinationIp block) = leaf-writes permission_form (leaf.DestinationIp block) DESTINATION_IP.now _ refl refl
permission-writes (leaf.DestinationPort port) = leaf-writes permission_form (leaf.DestinationPort port) DESTINATION_PORT.now _ refl refl
permission-writes (leaf.Header m) = leaf-writes permission_form (leaf.Header m) HEADER.now _ refl refl
permission-writes (leaf.ServerName m) = leaf-writes permission_form (leaf.ServerName m) SERVER_NAME.now _ refl refl
permission-writes (leaf.UriTemplate uri) = leaf-writes permission_form (leaf.UriTemplate uri) URI_TEMPLATE.now _ refl refl
permission-writes (leaf.UrlPath m) = leaf-writes permission_form (leaf.UrlPath m) URL_PATH.now _ refl refl

pub permission-own-names : HasOwnNames permission_form
permission-own-names = refl
