-- Values without fault are those of principals that can be written.
use Rattle.std.proofs.Common.{◌≡◌, ℕ, Bool, true, false, List, Option, Some, None, if◌then◌else◌, refl}
use Rattle.std.specs.Option.{ForSome}
use Rattle.std.specs.Str.{bytes_eq}
use Rattle.serde_json.specs.Data.{Data}
use Rattle.mesh_doc.proofs.NoFault as no_fault
use Rattle.mesh_doc.proofs.NoFault.{Ensures, strict_object}
use Rattle.mesh_doc.specs.Faults.{first}
use Rattle.mesh_doc.specs.Fields.{optional_written_in, required_written_in}
use Rattle.mesh_doc.specs.Places.{Steps}
use Rattle.envoy_types.specs.BlockForms.{block_faults, block_in}
use Rattle.envoy_types.specs.HeaderForms.{header_faults, header_in}
use Rattle.envoy_types.specs.PrincipalForms.{authenticated_faults, authenticated_in, authenticated_is_printable, principal_form}
use Rattle.envoy_types.specs.PrincipalForms.{principal_leaf_faults, principal_leaf_in, principal_leaf_is_printable}
use Rattle.envoy_types.specs.StringForms.{string_in, string_is_printable}
use Rattle.envoy_types.specs.TreeForms.{tree_list_faults, tree_list_in, tree_list_is_printable}
use Rattle.envoy_types.specs.ValueForms.{metadata_faults, path_in, value_in}
use Rattle.envoy_types.specs.declared.keys.TheConstants.{AUTHENTICATED, DIRECT_REMOTE_IP, HEADER, METADATA, PATH, PRINCIPAL_NAME, VALUE}
use Rattle.envoy_types.specs.declared.principal.PrincipalLeaf.TheVariants as leaf
use Rattle.envoy_types.specs.declared.strings.StringMatcher.{StringMatcher}
use Rattle.listener_reader.proofs.BlocksPrintable.{block-printable}
use Rattle.listener_reader.proofs.HeadersPrintable.{header-printable}
use Rattle.listener_reader.proofs.StringsPrintable.{string-printable}
use Rattle.listener_reader.proofs.TreesPrintable.{trees-printable}
use Rattle.listener_reader.proofs.ValuesPrintable.{metadata-printable}

-- ---- a peer that is known

name-printable : (name : Option StringMatcher) → ForSome name (λ m. string_is_printable m ≡ true) → authenticated_is_printable name ≡ true
name-printable None h = refl
name-printable (Some m) h = h m refl

peer-printable : Ensures authenticated_faults authenticated_in (λ name. authenticated_is_printable name ≡ true)
unfolding authenticated_faults authenticated_in
peer-printable = strict_object _ (record {
  holds = λ d at h.
      name-printable (optional_written_in PRINCIPAL_NAME.now string_in d)
      ((no_fault.optional_written PRINCIPAL_NAME.now string-printable).holds d at h);
})

-- ---- leaves

-- by which of the alternatives it is
chosen-printable : (d : Data) (at : Steps) (is_peer is_direct is_header is_metadata : Bool)
    → first ((if is_peer then authenticated_faults
    else if is_direct then block_faults
    else if is_header then header_faults
    else if is_metadata then metadata_faults
    else block_faults) d at) ≡ None
    → principal_leaf_is_printable (if is_peer then leaf.Authenticated (authenticated_in d)
    else if is_direct then leaf.DirectRemoteIp (block_in d)
    else if is_header then leaf.Header (header_in d)
    else if is_metadata then leaf.Metadata (required_written_in PATH.now path_in d) (required_written_in VALUE.now value_in d)
    else leaf.RemoteIp (block_in d)) ≡ true
unfolding principal_leaf_is_printable
chosen-printable d at true b c e h = peer-printable.holds d at h
chosen-printable d at false true c e h = block-printable.holds d at h
chosen-printable d at false false true e h = header-printable.holds d at h
chosen-printable d at false false false true h = metadata-printable.holds d at h
chosen-printable d at false false false false h = block-printable.holds d at h

leaf-printable : (key : List ℕ) (d : Data) (at : Steps) → first (principal_leaf_faults key d at) ≡ None
    → principal_leaf_is_printable (principal_leaf_in key d) ≡ true
unfolding principal_leaf_faults principal_leaf_in
leaf-printable key d at h =
    chosen-printable d at (bytes_eq key AUTHENTICATED.now) (bytes_eq key DIRECT_REMOTE_IP.now) (bytes_eq key HEADER.now)
    (bytes_eq key METADATA.now) h

-- ---- trees

pub principals-printable : Ensures (tree_list_faults principal_form) (tree_list_in principal_form)
    (λ trees. tree_list_is_printable principal_form trees ≡ true)
principals-printable = trees-printable principal_form leaf-printable
