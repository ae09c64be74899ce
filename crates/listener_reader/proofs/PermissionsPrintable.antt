-- Values without fault are those of permissions that can be written.
use Rattle.std.proofs.Common.{◌≡◌, ℕ, Bool, true, false, List, None, if◌then◌else◌}
use Rattle.std.specs.Str.{bytes_eq}
use Rattle.serde_json.specs.Data.{Data}
use Rattle.mesh_doc.proofs.NoFault as no_fault
use Rattle.mesh_doc.proofs.NoFault.{Ensures, strict_object}
use Rattle.mesh_doc.specs.Faults.{first}
use Rattle.mesh_doc.specs.Fields.{required_written_in}
use Rattle.mesh_doc.specs.Kinds.{number_in}
use Rattle.mesh_doc.specs.Places.{Steps}
use Rattle.mesh_doc.specs.declared.reason.Reason.TheVariants as reason
use Rattle.mesh_policy.specs.Template.{is_uri}
use Rattle.envoy_types.specs.BlockForms.{block_faults, block_in}
use Rattle.envoy_types.specs.HeaderForms.{header_faults, header_in}
use Rattle.envoy_types.specs.PermissionForms.{permission_form, permission_leaf_faults, permission_leaf_in, permission_leaf_is_printable}
use Rattle.envoy_types.specs.PermissionForms.{template_config_faults, uri_template_faults, uri_template_in, url_path_faults}
use Rattle.envoy_types.specs.SmallForms.{any_port_faults}
use Rattle.envoy_types.specs.StringForms.{string_faults, string_in, string_is_printable}
use Rattle.envoy_types.specs.TreeForms.{tree_list_faults, tree_list_in, tree_list_is_printable}
use Rattle.envoy_types.specs.declared.keys.TheConstants.{DESTINATION_IP, DESTINATION_PORT, HEADER, PATH, PATH_TEMPLATE, SERVER_NAME}
use Rattle.envoy_types.specs.declared.keys.TheConstants.{URI_TEMPLATE}
use Rattle.envoy_types.specs.declared.names.TheConstants.{URI_TEMPLATE_NAME}
use Rattle.envoy_types.specs.declared.permission.PermissionLeaf.TheVariants as leaf
use Rattle.listener_reader.proofs.BlocksPrintable.{block-printable}
use Rattle.listener_reader.proofs.HeadersPrintable.{header-printable}
use Rattle.listener_reader.proofs.PartsPrintable.{behind, named, number-within}
use Rattle.listener_reader.proofs.StringsPrintable.{string-printable}
use Rattle.listener_reader.proofs.TreesPrintable.{trees-printable}

-- ---- the path of a request

path-printable : Ensures url_path_faults (required_written_in PATH.now string_in) (λ m. string_is_printable m ≡ true)
unfolding url_path_faults
path-printable = strict_object _ (no_fault.required_written PATH.now string-printable)

template-printable : Ensures uri_template_faults uri_template_in (λ uri. is_uri uri ≡ true)
unfolding template_config_faults uri_template_in
template-printable =
    named URI_TEMPLATE_NAME.now
    (strict_object _ (behind (no_fault.required_written PATH_TEMPLATE.now (no_fault.tested is_uri reason.BadForm))))

-- ---- leaves

-- by which of the alternatives it is
chosen-printable : (d : Data) (at : Steps) (is_ip is_port is_header is_server is_template : Bool)
    → first ((if is_ip then block_faults
    else if is_port then any_port_faults
    else if is_header then header_faults
    else if is_server then string_faults
    else if is_template then uri_template_faults
    else url_path_faults) d at) ≡ None
    → permission_leaf_is_printable (if is_ip then leaf.DestinationIp (block_in d)
    else if is_port then leaf.DestinationPort (number_in d)
    else if is_header then leaf.Header (header_in d)
    else if is_server then leaf.ServerName (string_in d)
    else if is_template then leaf.UriTemplate (uri_template_in d)
    else leaf.UrlPath (required_written_in PATH.now string_in d)) ≡ true
unfolding permission_leaf_is_printable
chosen-printable d at true b c e f h = block-printable.holds d at h
chosen-printable d at false true c e f h = (number-within 0 65535).holds d at h
chosen-printable d at false false true e f h = header-printable.holds d at h
chosen-printable d at false false false true f h = string-printable.holds d at h
chosen-printable d at false false false false true h = template-printable.holds d at h
chosen-printable d at false false false false false h = path-printable.holds d at h

leaf-printable : (key : List ℕ) (d : Data) (at : Steps) → first (permission_leaf_faults key d at) ≡ None
    → permission_leaf_is_printable (permission_leaf_in key d) ≡ true
unfolding permission_leaf_faults permission_leaf_in
leaf-printable key d at h =
    chosen-printable d at (bytes_eq key DESTINATION_IP.now) (bytes_eq key DESTINATION_PORT.now) (bytes_eq key HEADER.now)
    (bytes_eq key SERVER_NAME.now) (bytes_eq key URI_TEMPLATE.now) h

-- ---- trees

pub permissions-printable : Ensures (tree_list_faults permission_form) (tree_list_in permission_form)
    (λ trees. tree_list_is_printable permission_form trees ≡ true)
permissions-printable = trees-printable permission_form leaf-printable
