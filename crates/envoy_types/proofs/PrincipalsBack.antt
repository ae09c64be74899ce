-- A leaf of principals that is written is read back.
use Rattle.std.proofs.Common.{◌≡◌, ℕ, true, List, Option, Some, None, refl}
use Rattle.mesh_doc.specs.Fields.{optional_written, optional_written_in}
use Rattle.mesh_doc.specs.Kinds.{object_faults}
use Rattle.mesh_doc.specs.Known.{is_known, unknown_faults}
use Rattle.mesh_doc.specs.Places.{at_key}
use Rattle.envoy_types.proofs.BlocksBack.{block-back}
use Rattle.envoy_types.proofs.FieldsBack.{Passes}
use Rattle.envoy_types.proofs.HeadersBack.{header-back}
use Rattle.envoy_types.proofs.LeavesBack.{as-leaf, leaf-reads-back, leaf-writes}
use Rattle.envoy_types.proofs.PartsBack.{Back}
use Rattle.envoy_types.proofs.StringsBack.{string-back}
use Rattle.envoy_types.proofs.ValuesBack.{metadata-back}
use Rattle.envoy_types.specs.PrincipalForms.{authenticated_faults, authenticated_in, authenticated_is_printable, authenticated_written}
use Rattle.envoy_types.specs.PrincipalForms.{principal_form, principal_leaf_faults, principal_leaf_in, principal_leaf_is_printable}
use Rattle.envoy_types.specs.PrincipalForms.{principal_leaf_written}
use Rattle.envoy_types.specs.StringForms.{string_faults, string_in, string_written}
use Rattle.envoy_types.specs.TreeForms.{HasOwnNames, ReadsBack, WritesLeaf}
use Rattle.envoy_types.specs.declared.keys.TheConstants.{AUTHENTICATED, DIRECT_REMOTE_IP, HEADER, METADATA, PRINCIPAL_NAME, REMOTE_IP}
use Rattle.envoy_types.specs.declared.metadata.ValueMatcher.{ValueMatcher}
use Rattle.envoy_types.specs.declared.principal.PrincipalLeaf.{PrincipalLeaf}
use Rattle.envoy_types.specs.declared.principal.PrincipalLeaf.TheVariants as leaf
use Rattle.envoy_types.specs.declared.strings.StringMatcher.{StringMatcher}

-- ---- a peer that is known

any-name-back : Back authenticated_faults authenticated_in (authenticated_written None) None
unfolding authenticated_faults authenticated_in authenticated_written optional_written optional_written_in unknown_faults object_faults
any-name-back = record { passes = record { clean = λ at. refl }; back = refl }

name-passes : (m : StringMatcher) → Passes string_faults (string_written m) → Passes authenticated_faults (authenticated_written (Some m))
unfolding authenticated_faults authenticated_written optional_written unknown_faults object_faults is_known
name-passes m p = record { clean = λ at. rw (p.clean (at_key PRINCIPAL_NAME.now at)) refl }

name-is : (m : StringMatcher) → string_in (string_written m) ≡ m → authenticated_in (authenticated_written (Some m)) ≡ Some m
unfolding authenticated_in authenticated_written optional_written_in
name-is m is = rw is refl

authenticated-back : (name : Option StringMatcher) → authenticated_is_printable name ≡ true
    → Back authenticated_faults authenticated_in (authenticated_written name) name
authenticated-back None h = any-name-back
authenticated-back (Some m) h =
    let known = string-back m h in
    record { passes = name-passes m known.passes; back = name-is m known.back }

-- ---- leaves

pub principal-reads-back : (l : PrincipalLeaf) → principal_form.leaf_is_printable l ≡ true → ReadsBack principal_form l
unfolding principal_leaf_faults principal_leaf_in principal_leaf_written principal_leaf_is_printable
principal-reads-back (leaf.Authenticated name) h =
    leaf-reads-back principal_form (leaf.Authenticated name) AUTHENTICATED.now _ refl
    (as-leaf leaf.Authenticated (authenticated-back name h))
principal-reads-back (leaf.DirectRemoteIp block) h =
    leaf-reads-back principal_form (leaf.DirectRemoteIp block) DIRECT_REMOTE_IP.now _ refl
    (as-leaf leaf.DirectRemoteIp (block-back block h))
principal-reads-back (leaf.RemoteIp block) h =
    leaf-reads-back principal_form (leaf.RemoteIp block) REMOTE_IP.now _ refl (as-leaf leaf.RemoteIp (block-back block h))
principal-reads-back (leaf.Header m) h =
    leaf-reads-back principal_form (leaf.Header m) HEADER.now _ refl (as-leaf leaf.Header (header-back m h))
principal-reads-back (leaf.Metadata keys value) h =
    leaf-reads-back principal_form (leaf.Metadata keys value) METADATA.now _ refl
    (as-leaf (λ (claim : List (List ℕ) × ValueMatcher). leaf.Metadata claim.0 claim.1) (metadata-back keys value h))

pub principal-writes : (l : PrincipalLeaf) → WritesLeaf principal_form l
unfolding principal_leaf_written is_known
principal-writes (leaf.Authenticated name) = leaf-writes principal_form (leaf.Authenticated name) AUTHENTICATED.now _ refl refl
principal-writes (leaf.DirectRemoteIp block) = leaf-writes principal_form (leaf.DirectRemoteIp block) DIRECT_REMOTE_IP.now _ refl refl
principal-writes (leaf.RemoteIp block) = leaf-writes principal_form (leaf.RemoteIp block) REMOTE_IP.now _ refl refl
principal-writes (leaf.Header m) = leaf-writes principal_form (leaf.Header m) HEADER.now _ refl refl
principal-writes (leaf.Metadata keys value) = leaf-writes principal_form (leaf.Metadata keys value) METADATA.now _ refl refl

pub principal-own-names : HasOwnNames principal_form
principal-own-names = refl
