-- Pods, Services and a MeshConfig without fault are accepted, and so are the names in metadata.
use Rattle.std.proofs.Common.{◌≡◌, ℕ, ◌*◌, ◌≤◌, Bool, true, false, cond, List, [], ◌∷◌, Option, Some, None, is_some, length, All, IsTrue, refl, subst, arith, length-append}
use Rattle.std.proofs.lemmas.Bool.{not-true}
use Rattle.std.proofs.lemmas.List.Elements.{All-append, All-cons, All-head, All-nil, All-tail}
use Rattle.std.specs.Option.{ForSome}
use Rattle.std.specs.Str.{bytes_eq}
use Rattle.serde_json.specs.Data.{Data}
use Rattle.serde_json.specs.Find.{as_str}
use Rattle.mesh_doc.specs.Faults.{Check, Faults, first, none}
use Rattle.mesh_doc.specs.Fields.{field_in, required_in}
use Rattle.mesh_doc.specs.Kinds.{number_in, text_in}
use Rattle.mesh_doc.specs.Places.{Steps, at_key}
use Rattle.mesh_doc.specs.declared.reason.Reason.TheVariants as reason
use Rattle.mesh_policy.specs.AcceptedBundle.{AcceptedMesh, AcceptedPod, AcceptedProvider, AcceptedService, AcceptedServicePort, is_target, same_provider}
use Rattle.mesh_policy.specs.AcceptedLists.{AcceptedLabels, AcceptedList}
use Rattle.mesh_policy.specs.Values.{is_port}
use Rattle.mesh_policy.specs.declared.names.TheConstants.{DEFAULT_NAMESPACE, ROOT_NAMESPACE}
use Rattle.mesh_policy.specs.declared.pod.NamedPort.{NamedPort}
use Rattle.mesh_policy.specs.declared.provider.Provider.{Provider}
use Rattle.mesh_policy.specs.declared.service.Target.TheVariants as target
use Rattle.mesh_text.specs.Dns.{is_label, is_subdomain}
use Rattle.mesh_text.specs.Time.{is_time}
use Rattle.policy_json.proofs.AcceptedSpecs.{labels_ensures, token_ensures}
use Rattle.manifest_json.proofs.Fresh.{AllPairs-from_Pairs, Remembers, Seen, bytes_eq_comm, listed_pairs, no_pairs, seen_last, seen_still}
use Rattle.mesh_doc.proofs.NoFault as no_fault
use Rattle.mesh_doc.proofs.NoFault.{Ensures, IsListOf, any_object, earlier, later, passed, strict_object}
use Rattle.manifest_json.specs.Flat.{joined, kept}
use Rattle.manifest_json.specs.MeshConfig.{after_provider, authorizer_faults, authorizer_in, form_in, form_of, forms_faults, is_new_name, mesh_config_faults, mesh_config_in, mesh_item_faults, mesh_item_in, name_in_turn_faults, provider_faults, provider_in, single_form_faults}
use Rattle.manifest_json.specs.Metadata.{authorization_metadata_faults, is_timestamp, name_faults, names_faults, names_in, namespace_faults, peer_metadata_faults, peer_metadata_in, plain_metadata_faults, pod_metadata_faults, pod_metadata_in, time_faults}
use Rattle.manifest_json.specs.Pod.{container_faults, container_in, is_passed, named_port_faults, named_port_in, pod_faults, pod_in, pod_spec_faults, pod_spec_in}
use Rattle.manifest_json.specs.Ports.{has_other_protocol, port_faults, unless_passed}
use Rattle.manifest_json.specs.Service.{service_faults, service_in, service_port_faults, service_port_in, service_spec_faults, service_spec_in, target_faults, target_in}
use Rattle.manifest_json.specs.declared.items.TheConstants.{METADATA, SPEC}
use Rattle.manifest_json.specs.declared.mesh_config.Authorizer.{Authorizer}
use Rattle.manifest_json.specs.declared.mesh_config.TheConstants.{ENVOY_EXT_AUTHZ_GRPC, ENVOY_EXT_AUTHZ_HTTP, EXTENSION_PROVIDERS, ROOT_NAMESPACE_FIELD, SERVICE}
use Rattle.manifest_json.specs.declared.metadata.Names.{Names}
use Rattle.manifest_json.specs.declared.metadata.PeerMetadata.{PeerMetadata}
use Rattle.manifest_json.specs.declared.metadata.PodMetadata.{PodMetadata}
use Rattle.manifest_json.specs.declared.metadata.TheConstants.{CREATION_TIMESTAMP, LABELS, NAME, NAMESPACE}
use Rattle.manifest_json.specs.declared.pod.TheConstants.{CONTAINERS, CONTAINER_PORT}
use Rattle.manifest_json.specs.declared.ports.TheConstants.{PORT, PORTS}
use Rattle.manifest_json.specs.declared.service.ServiceSpec.{ServiceSpec}
use Rattle.manifest_json.specs.declared.service.TheConstants.{SELECTOR, TARGET_PORT}

-- ---- names

pub record AcceptedNames (names : Names) : Type 0 where
  pub name : IsTrue (is_subdomain names.name)
  pub namespace : IsTrue (is_label names.namespace)

name_ensures : Ensures name_faults text_in (λ t. IsTrue (is_subdomain t))
name_ensures = no_fault.tested is_subdomain reason.BadName

namespace_ensures : Ensures namespace_faults text_in (λ t. IsTrue (is_label t))
namespace_ensures = no_fault.tested is_label reason.BadName

default_is_label : IsTrue (is_label DEFAULT_NAMESPACE.now)
default_is_label = refl

names_ensures : Ensures names_faults names_in AcceptedNames
unfolding names_faults names_in
names_ensures = record {
  holds = λ d at h. record {
    name = (no_fault.required NAME.now name_ensures).holds d at (earlier _ _ h);
    namespace = (no_fault.optional_or NAMESPACE.now DEFAULT_NAMESPACE.now default_is_label namespace_ensures).holds d at (later _ _ h);
  };
}

pub plain_metadata_ensures : Ensures plain_metadata_faults names_in AcceptedNames
unfolding plain_metadata_faults
plain_metadata_ensures = any_object names_ensures

pub authorization_metadata_ensures : Ensures authorization_metadata_faults names_in AcceptedNames
unfolding authorization_metadata_faults
authorization_metadata_ensures = any_object (record { holds = λ d at h. names_ensures.holds d at (earlier _ _ h) })

pub record AcceptedPeerMetadata (metadata : PeerMetadata) : Type 0 where
  pub names : AcceptedNames metadata.names
  pub age : ForSome metadata.age (λ time. IsTrue (is_time time))

timestamp_ensures : Ensures time_faults text_in (λ t. IsTrue (is_time t))
unfolding is_timestamp
timestamp_ensures = no_fault.tested is_timestamp reason.BadTime

pub peer_metadata_ensures : Ensures peer_metadata_faults peer_metadata_in AcceptedPeerMetadata
unfolding peer_metadata_faults peer_metadata_in
peer_metadata_ensures = any_object (record {
  holds = λ d at h. record {
    names = names_ensures.holds d at (earlier _ _ h);
    age = (no_fault.optional CREATION_TIMESTAMP.now timestamp_ensures).holds d at (later _ _ h);
  };
})

-- ---- ports

pub port_ensures : Ensures port_faults number_in (λ n. IsTrue (is_port n))
unfolding port_faults
port_ensures = record { holds = λ d at h. passed (is_port (number_in d)) _ at (later _ _ h) }

-- an entry that is passed over, or one without fault
unless_passed_holds : {A : Type 0} (P : A → Type 0) (b : Bool) (fs : Faults) (x : A) → (first fs ≡ None → P x)
    → first (cond b none fs) ≡ None → ForSome (cond b None (Some x)) P
unless_passed_holds P true fs x holds h = λ y same. cc
unless_passed_holds P false fs x holds h = λ y same. let is : x ≡ y = cc in subst P is (holds h)

unless_passed_ensures : {A : Type 0} {f : Check} {value : Data → A} {P : A → Type 0} (is_passed : Data → Bool) → Ensures f value P
    → Ensures (unless_passed is_passed f) (λ d. cond (is_passed d) None (Some (value d))) (λ o. ForSome o P)
unless_passed_ensures {f = f} {value = value} {P = P} is_passed e = record {
  holds = λ d at h. unless_passed_holds P (is_passed d) (f d at) (value d) (e.holds d at) h;
}

-- the entries that are not passed over
kept_each : {A : Type 0} (P : A → Type 0) (os : List (Option A)) → All (λ o. ForSome o P) os → All P (kept os)
kept_each P [] h = All-nil P
kept_each P (None ∷ os) h = kept_each P os (All-tail (λ o. ForSome o P) None os h)
kept_each P (Some a ∷ os) h =
    All-cons P a (kept os) (All-head (λ o. ForSome o P) (Some a) os h a refl) (kept_each P os (All-tail (λ o. ForSome o P) (Some a) os h))

length-kept : {A : Type 0} (os : List (Option A)) → length (kept os) ≤ length os
length-kept [] = omega arith
length-kept (None ∷ os) = omega (arith, length-kept os)
length-kept (Some a ∷ os) = omega (arith, length-kept os)

pub kept_list : {A : Type 0} (most : ℕ) (P : A → Type 0) (os : List (Option A))
    → IsListOf most (λ o. ForSome o P) os → IsListOf most P (kept os)
kept_list most P os h = record { few = omega (arith, length-kept os, h.few); each = kept_each P os h.each }

-- ---- Pods

abbrev HasPort : NamedPort → Type 0
HasPort entry = IsTrue (is_port entry.port)

named_port_ensures : Ensures named_port_faults named_port_in (λ o. ForSome o HasPort)
unfolding named_port_faults named_port_in
named_port_ensures = any_object (unless_passed_ensures is_passed (record {
  holds = λ d at h. (no_fault.required CONTAINER_PORT.now port_ensures).holds d at (later _ _ h);
}))

container_ensures : Ensures container_faults container_in (IsListOf 2048 HasPort)
unfolding container_faults container_in
container_ensures = any_object (record {
  holds = λ d at h. kept_list 2048 HasPort _ ((no_fault.listed PORTS.now 2048 named_port_ensures).holds d at h);
})

joined_each : {A : Type 0} (most : ℕ) (P : A → Type 0) (ls : List (List A)) → All (IsListOf most P) ls → All P (joined ls)
joined_each most P [] h = All-nil P
joined_each most P (l ∷ ls) h =
    All-append P l (joined ls) (All-head (IsListOf most P) l ls h).each (joined_each most P ls (All-tail (IsListOf most P) l ls h))

length-joined : {A : Type 0} (most : ℕ) (P : A → Type 0) (ls : List (List A)) → All (IsListOf most P) ls
    → length (joined ls) ≤ length ls * most
length-joined most P [] h = omega arith
length-joined most P (l ∷ ls) h =
    let here : length l ≤ most = (All-head (IsListOf most P) l ls h).few in
    let rest : length (joined ls) ≤ length ls * most = length-joined most P ls (All-tail (IsListOf most P) l ls h) in
    rw (length-append l (joined ls)) (omega arith)

joined_list : (ls : List (List NamedPort)) → IsListOf 2048 (IsListOf 2048 HasPort) ls → IsListOf 4194304 HasPort (joined ls)
joined_list ls h = record {
  few =
      let many : length (joined ls) ≤ length ls * 2048 = length-joined 2048 HasPort ls h.each in
      omega (arith, h.few);
  each = joined_each 2048 HasPort ls h.each;
}

pod_spec_ensures : Ensures pod_spec_faults pod_spec_in (IsListOf 4194304 HasPort)
unfolding pod_spec_faults pod_spec_in
pod_spec_ensures = any_object (record {
  holds = λ d at h. joined_list _ ((no_fault.listed CONTAINERS.now 2048 container_ensures).holds d at h);
})

record AcceptedPodMetadata (metadata : PodMetadata) : Type 0 where
  names : AcceptedNames metadata.names
  labels : AcceptedLabels metadata.labels

pod_metadata_ensures : Ensures pod_metadata_faults pod_metadata_in AcceptedPodMetadata
unfolding pod_metadata_faults pod_metadata_in
pod_metadata_ensures = any_object (record {
  holds = λ d at h. record {
    names = names_ensures.holds d at (earlier _ _ h);
    labels = (no_fault.or_empty LABELS.now labels_ensures).holds d at (later _ _ h);
  };
})

pub pod_ensures : Ensures pod_faults pod_in AcceptedPod
unfolding pod_faults pod_in
pod_ensures = any_object (record {
  holds = λ d at h.
      let metadata = (no_fault.required METADATA.now pod_metadata_ensures).holds d at (earlier _ _ h) in
      let ports = (no_fault.or_empty SPEC.now pod_spec_ensures).holds d at (later _ _ h) in
      record {
        name = metadata.names.name;
        namespace = metadata.names.namespace;
        labels = metadata.labels;
        few_ports = ports.few;
        ports = ports.each;
      };
})

-- ---- Services

target_holds : (b : Bool) (fs : Faults) (name : List ℕ) (n : ℕ) → (first fs ≡ None → IsTrue (is_port n))
    → first (cond b none fs) ≡ None → IsTrue (is_target (cond b (target.Named name) (target.Number n)))
target_holds true fs name n holds h = refl
target_holds false fs name n holds h = holds h

target_ensures : Ensures target_faults target_in (λ t. IsTrue (is_target t))
unfolding target_faults target_in
target_ensures = record {
  holds = λ d at h. target_holds (is_some (as_str d)) (port_faults d at) (text_in d) (number_in d) (port_ensures.holds d at) h;
}

service_port_ensures : Ensures service_port_faults service_port_in (λ o. ForSome o AcceptedServicePort)
unfolding service_port_faults service_port_in
service_port_ensures = any_object (unless_passed_ensures has_other_protocol (record {
  holds = λ d at h. record {
    port = (no_fault.required PORT.now port_ensures).holds d at (earlier _ _ (later _ _ h));
    target = (no_fault.optional_or TARGET_PORT.now target.Same refl target_ensures).holds d at (earlier _ _ (later _ _ (later _ _ h)));
  };
}))

record AcceptedSpec (spec : ServiceSpec) : Type 0 where
  selector : AcceptedLabels spec.selector
  ports : AcceptedList AcceptedServicePort spec.ports

accepted_list : {A : Type 0} {P : A → Type 0} {xs : List A} → IsListOf 2048 P xs → AcceptedList P xs
accepted_list h = record { few = h.few; each = h.each }

service_spec_ensures : Ensures service_spec_faults service_spec_in AcceptedSpec
unfolding service_spec_faults service_spec_in
service_spec_ensures = any_object (record {
  holds = λ d at h. record {
    selector = (no_fault.or_empty SELECTOR.now labels_ensures).holds d at (earlier _ _ h);
    ports = accepted_list
        (kept_list 2048 AcceptedServicePort _ ((no_fault.listed PORTS.now 2048 service_port_ensures).holds d at (later _ _ h)));
  };
})

pub service_ensures : Ensures service_faults service_in AcceptedService
unfolding service_faults service_in
service_ensures = any_object (record {
  holds = λ d at h.
      let names = (no_fault.required METADATA.now plain_metadata_ensures).holds d at (earlier _ _ h) in
      let spec = (no_fault.or_empty SPEC.now service_spec_ensures).holds d at (later _ _ h) in
      record { name = names.name; namespace = names.namespace; selector = spec.selector; ports = spec.ports };
})

-- ---- the mesh

record AcceptedAuthorizer (authorizer : Authorizer) : Type 0 where
  service : IsTrue (is_subdomain authorizer.service)
  port : IsTrue (is_port authorizer.port)

authorizer_ensures : Ensures authorizer_faults authorizer_in AcceptedAuthorizer
unfolding authorizer_faults authorizer_in
authorizer_ensures = strict_object _ (record {
  holds = λ d at h. record {
    service = (no_fault.required SERVICE.now name_ensures).holds d at (earlier _ _ h);
    port = (no_fault.required PORT.now port_ensures).holds d at (earlier _ _ (later _ _ h));
  };
})

form_holds : (http grpc : Option Data) (at : Steps) → first (single_form_faults http grpc at) ≡ None
    → AcceptedAuthorizer (form_of http grpc)
form_holds None None at h = cc
form_holds (Some http) None at h = authorizer_ensures.holds http (at_key ENVOY_EXT_AUTHZ_HTTP.now at) h
form_holds None (Some grpc) at h = authorizer_ensures.holds grpc (at_key ENVOY_EXT_AUTHZ_GRPC.now at) h
form_holds (Some http) (Some grpc) at h = cc

form_ensures : Ensures forms_faults form_in AcceptedAuthorizer
unfolding forms_faults form_in
form_ensures = record { holds = λ d at h. form_holds (field_in ENVOY_EXT_AUTHZ_HTTP.now d) (field_in ENVOY_EXT_AUTHZ_GRPC.now d) at h }

provider_ensures : (seen : List (List ℕ)) → Ensures (provider_faults seen) provider_in AcceptedProvider
unfolding provider_faults provider_in name_in_turn_faults
provider_ensures seen = strict_object _ (record {
  holds = λ d at h.
      let form = form_ensures.holds d at (later _ _ h) in
      record {
        name = (no_fault.required NAME.now token_ensures).holds d at (earlier _ _ (earlier _ _ h));
        service = form.service;
        port = form.port;
      };
})

-- an earlier provider has another name
abbrev Differs : Provider → Provider → Type 0
Differs a b = same_provider a b ≡ false

new_name_ensures : (seen : List (List ℕ)) → Ensures (provider_faults seen) (λ d. is_new_name seen d) (λ b. b ≡ true)
unfolding provider_faults name_in_turn_faults
new_name_ensures seen = strict_object _ (record { holds = λ d at h. passed (is_new_name seen d) _ _ (later _ _ (earlier _ _ h)) })

providers_remembered : Remembers provider_faults provider_in after_provider Differs (λ seen p. Seen bytes_eq seen p.name)
unfolding provider_in after_provider
providers_remembered = record {
  apart = λ seen d at h p known.
      let name = required_in NAME.now text_in d in
      rw (bytes_eq_comm p.name name) (known name (not-true _ ((new_name_ensures seen).holds d at h)));
  added = λ seen d. seen_last bytes_eq seen (required_in NAME.now text_in d);
  kept = λ seen d p known. seen_still bytes_eq seen p.name (required_in NAME.now text_in d) known;
}

root_is_label : IsTrue (is_label ROOT_NAMESPACE.now)
root_is_label = refl

pub default_mesh_accepted : AcceptedMesh (record { root = ROOT_NAMESPACE.now; providers = [] })
default_mesh_accepted = record {
  root = root_is_label;
  providers = record { few = omega arith; each = All-nil AcceptedProvider };
  each_once = no_pairs Differs;
}

mesh_config_ensures : Ensures mesh_config_faults mesh_config_in AcceptedMesh
unfolding mesh_config_faults mesh_config_in
mesh_config_ensures = strict_object _ (record {
  holds = λ d at h. record {
    root = (no_fault.optional_or ROOT_NAMESPACE_FIELD.now ROOT_NAMESPACE.now root_is_label namespace_ensures).holds d at (earlier _ _ h);
    providers = accepted_list
        ((no_fault.listed_in_turn after_provider provider_ensures EXTENSION_PROVIDERS.now 2048 []).holds d at (later _ _ h));
    each_once = AllPairs-from_Pairs Differs _
        ((listed_pairs providers_remembered EXTENSION_PROVIDERS.now 2048 []).holds d at (later _ _ h));
  };
})

pub mesh_item_ensures : Ensures mesh_item_faults mesh_item_in AcceptedMesh
unfolding mesh_item_faults mesh_item_in
mesh_item_ensures = no_fault.or_empty SPEC.now mesh_config_ensures
