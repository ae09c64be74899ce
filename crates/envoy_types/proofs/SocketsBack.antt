-- What is written of the TLS socket and of the listener filters passes.
use Rattle.std.proofs.Common.{ℕ, true, List, [], ◌∷◌, refl}
use Rattle.serde_json.specs.Data.{Data, array, boolean, string}
use Rattle.serde_json.specs.View.{items_of}
use Rattle.mesh_doc.specs.Kinds.{length_in, list_faults}
use Rattle.mesh_doc.specs.Known.{is_known}
use Rattle.mesh_doc.specs.Places.{at_index}
use Rattle.mesh_doc.specs.Turns.{list_in_turn}
use Rattle.envoy_types.proofs.FieldsBack.{Passes, both, strict-object}
use Rattle.envoy_types.proofs.ObjectsBack.{passing, required-at}
use Rattle.envoy_types.proofs.PartsBack.{fixed-passes, named-passes, plain-passes, sole-back, true-passes}
use Rattle.envoy_types.specs.SmallForms.{list_in_turn_that, short_list_faults}
use Rattle.envoy_types.specs.SocketForms.{certificates_faults, certificates_written, listener_filters_faults}
use Rattle.envoy_types.specs.SocketForms.{listener_filters_written, original_dst_faults, secret_faults, secret_written, socket_faults}
use Rattle.envoy_types.specs.SocketForms.{socket_written, tls_context_faults, tls_inspector_faults}
use Rattle.envoy_types.specs.WrittenFields.{Field, config_written, field, named_written}
use Rattle.envoy_types.specs.declared.fixed.TheConstants.{MESH_ROOTS, OWN_CERTIFICATE}
use Rattle.envoy_types.specs.declared.keys.TheConstants.{COMMON_TLS_CONTEXT, NAME, REQUIRE_CLIENT_CERTIFICATE, TLS_CERTIFICATES, TYPE}
use Rattle.envoy_types.specs.declared.keys.TheConstants.{VALIDATION_CONTEXT}
use Rattle.envoy_types.specs.declared.names.TheConstants.{ORIGINAL_DST_NAME, ORIGINAL_DST_TYPE, TLS_INSPECTOR_NAME, TLS_INSPECTOR_TYPE}
use Rattle.envoy_types.specs.declared.names.TheConstants.{TLS_SOCKET_NAME, TLS_SOCKET_TYPE}

-- ---- the socket

secret-passes : (name : List ℕ) → Passes (secret_faults name) (secret_written name)
unfolding secret_faults is_known
secret-passes name =
    let fs : List Field = field NAME.now (string name) ∷ [] in
    strict-object (NAME.now ∷ []) _ fs refl (required-at fs refl NAME.now _ _ refl (fixed-passes name))

certificates-passes : Passes certificates_faults certificates_written
unfolding certificates_faults certificates_written is_known
certificates-passes =
    let own : Data = secret_written OWN_CERTIFICATE.now in
    let roots : Data = secret_written MESH_ROOTS.now in
    let fs : List Field = field TLS_CERTIFICATES.now (array (items_of (own ∷ []))) ∷ field VALIDATION_CONTEXT.now roots ∷ [] in
    strict-object (TLS_CERTIFICATES.now ∷ VALIDATION_CONTEXT.now ∷ []) _ fs refl
    (both
    (required-at fs refl TLS_CERTIFICATES.now _ _ refl (sole-back _ _ own own (passing (secret-passes OWN_CERTIFICATE.now))).passes)
    (required-at fs refl VALIDATION_CONTEXT.now _ _ refl (secret-passes MESH_ROOTS.now)))

context-passes : Passes tls_context_faults (config_written TLS_SOCKET_TYPE.now
    (field COMMON_TLS_CONTEXT.now certificates_written ∷ field REQUIRE_CLIENT_CERTIFICATE.now (boolean true) ∷ []))
unfolding tls_context_faults is_known
context-passes =
    let fs : List Field =
    field TYPE.now (string TLS_SOCKET_TYPE.now)
    ∷ field COMMON_TLS_CONTEXT.now certificates_written
    ∷ field REQUIRE_CLIENT_CERTIFICATE.now (boolean true)
    ∷ [] in
    strict-object (TYPE.now ∷ COMMON_TLS_CONTEXT.now ∷ REQUIRE_CLIENT_CERTIFICATE.now ∷ []) _ fs refl
    (both (required-at fs refl TYPE.now _ _ refl (fixed-passes TLS_SOCKET_TYPE.now))
    (both (required-at fs refl COMMON_TLS_CONTEXT.now _ _ refl certificates-passes)
    (required-at fs refl REQUIRE_CLIENT_CERTIFICATE.now _ _ refl true-passes)))

pub socket-passes : Passes socket_faults socket_written
unfolding socket_written
socket-passes = named-passes TLS_SOCKET_NAME.now tls_context_faults _ context-passes

-- ---- listener filters

original-passes : Passes original_dst_faults (named_written ORIGINAL_DST_NAME.now (config_written ORIGINAL_DST_TYPE.now []))
unfolding original_dst_faults
original-passes = named-passes ORIGINAL_DST_NAME.now _ _ (plain-passes ORIGINAL_DST_TYPE.now)

inspector-passes : Passes tls_inspector_faults (named_written TLS_INSPECTOR_NAME.now (config_written TLS_INSPECTOR_TYPE.now []))
unfolding tls_inspector_faults
inspector-passes = named-passes TLS_INSPECTOR_NAME.now _ _ (plain-passes TLS_INSPECTOR_TYPE.now)

pub listener-filters-pass : Passes listener_filters_faults listener_filters_written
unfolding listener_filters_faults listener_filters_written list_in_turn_that short_list_faults list_in_turn list_faults length_in
listener-filters-pass = record {
  clean = λ at. rw (original-passes.clean (at_index 0 at), inspector-passes.clean (at_index 1 at)) refl;
}
