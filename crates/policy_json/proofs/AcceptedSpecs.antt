-- What the reader of a `spec` without fault answers is accepted, where the name and the namespace are.
use Rattle.std.proofs.Common.{◌≡◌, ℕ, List, [], refl, sym, ap, ◌∙◌, Option, Some}
use Rattle.std.proofs.Common.{is_some, IsTrue, All, arith}
use Rattle.std.proofs.lemmas.Bool.Decides.{Decides-eqb}
use Rattle.std.proofs.lemmas.List.Elements.{All-nil}
use Rattle.std.proofs.lemmas.Slice.Eq.{bytes_eq-Decides}
use Rattle.std.specs.Bool.{⊤}
use Rattle.std.specs.Option.{ForSome}
use Rattle.mesh_doc.proofs.EachOnce.{map_each_once}
use Rattle.mesh_doc.proofs.NoFault as no_fault
use Rattle.mesh_doc.proofs.NoFault.{Ensures, ◌⨾⨾◌, anything, earlier, later, passed, strict_object}
use Rattle.mesh_doc.specs.Fields.{optional, optional_in}
use Rattle.mesh_doc.specs.Kinds.{text_in}
use Rattle.mesh_doc.specs.declared.reason.Reason.TheVariants as reason
use Rattle.mesh_policy.specs.AcceptedBundle.{AcceptedPeer, same_port}
use Rattle.mesh_policy.specs.AcceptedLists.{AcceptedLabels, EachOnce, same_key}
use Rattle.mesh_policy.specs.AcceptedRules.{AcceptedPolicy}
use Rattle.mesh_policy.specs.AcceptedTokens.{AcceptedRequest}
use Rattle.mesh_policy.specs.Values.{belongs, is_port}
use Rattle.mesh_text.specs.Dns.{is_label, is_subdomain}
use Rattle.mesh_text.specs.Time.{is_time}
use Rattle.mesh_text.specs.Token.{is_token}
use Rattle.policy_json.proofs.AcceptedRules.{entries, rule_ensures}
use Rattle.policy_json.proofs.AcceptedTokens.{jwt_rule_ensures}
use Rattle.policy_json.proofs.PortTexts.{port_there, text_of_port}
use Rattle.policy_json.specs.Authorization.{action_faults, action_in, action_or_allow, authorization_faults}
use Rattle.policy_json.specs.Authorization.{authorization_in, provider_faults, provider_in}
use Rattle.policy_json.specs.Labels.{label_in, labels_faults, labels_in, selector_faults, selector_in}
use Rattle.policy_json.specs.Peer.{peer_faults, peer_in, port_faults, port_in, ports_faults, ports_in}
use Rattle.policy_json.specs.Ports.{port_of}
use Rattle.policy_json.specs.Request.{request_faults, request_in}
use Rattle.policy_json.specs.TargetRefs.{targets_faults}
use Rattle.policy_json.specs.Texts.{token_faults}
use Rattle.policy_json.specs.declared.authorization.TheConstants.{ACTION, NAME, PROVIDER, RULES}
use Rattle.policy_json.specs.declared.labels.TheConstants.{MATCH_LABELS, SELECTOR}
use Rattle.policy_json.specs.declared.peer.TheConstants.{PORT_LEVEL_MTLS}
use Rattle.policy_json.specs.declared.request.TheConstants.{JWT_RULES}

-- ---- labels

-- the value of a key holds it
pub labels_ensures : Ensures labels_faults labels_in AcceptedLabels
unfolding label_in labels_faults labels_in
labels_ensures = map_each_once {Of = λ key label. label.key ≡ key} same_key (λ key. record { holds = λ d at h. refl })
    (λ key other a b p q same. sym p ∙ (bytes_eq-Decides a.key b.key).0 same ∙ q)

-- no label is twice in none
no_labels : AcceptedLabels []
no_labels = λ i j d below inside. absurd (omega arith)

selector_ensures : Ensures selector_faults selector_in AcceptedLabels
unfolding selector_faults selector_in
selector_ensures = strict_object _ (record {
  holds = λ d at h.
      (no_fault.optional_or MATCH_LABELS.now [] no_labels labels_ensures).holds d at h;
})

any_targets : Ensures targets_faults (λ d. d) (λ _. ⊤)
any_targets = anything

-- ---- AuthorizationPolicy

-- the name of a provider
pub token_ensures : Ensures token_faults text_in (λ t. IsTrue (is_token t))
token_ensures = no_fault.tested is_token reason.BadName

provider_ensures : Ensures provider_faults provider_in (λ t. IsTrue (is_token t))
unfolding provider_faults provider_in
provider_ensures = strict_object _ (no_fault.required NAME.now token_ensures)

any_action : Ensures (optional ACTION.now action_faults) (optional_in ACTION.now action_in) (λ _. ⊤)
any_action = anything

pub policy_ensures : (name namespace : List ℕ) → IsTrue (is_subdomain name) → IsTrue (is_label namespace)
    → Ensures authorization_faults (authorization_in name namespace) AcceptedPolicy
unfolding authorization_faults authorization_in
policy_ensures name namespace named placed = strict_object _ (record {
  holds = λ d at h.
      let parts = (no_fault.optional_or SELECTOR.now [] no_labels selector_ensures
      ⨾⨾ any_targets
      ⨾⨾ any_action
      ⨾⨾ no_fault.optional PROVIDER.now provider_ensures
      ⨾⨾ entries RULES.now rule_ensures
      ⨾⨾ no_fault.demanded (λ d. belongs (action_or_allow d)
      (optional_in PROVIDER.now provider_in d)) reason.ProviderRule).holds d at h in
      record {
        name = named;
        namespace = placed;
        labels = parts.0;
        provider = parts.1.1.1.0;
        provider_rule = parts.1.1.1.1.1;
        rules = parts.1.1.1.1.0;
      };
})

-- ---- PeerAuthentication

-- the port is the number that the key is
port_told : (key : List ℕ) → Ensures (port_faults key) (port_in key) (λ entry. (port_of key ≡ Some entry.port) × IsTrue (is_port entry.port))
unfolding port_faults port_in
port_told key = record { holds = λ d at h. port_there key (port_of key) refl (passed (is_some (port_of key)) _ at (earlier _ _ h)) }

port_ensures : (key : List ℕ) → Ensures (port_faults key) (port_in key) (λ entry. IsTrue (is_port entry.port))
port_ensures key = record { holds = λ d at h. ((port_told key).holds d at h).1 }

each_port : Ensures ports_faults ports_in (All (λ entry. IsTrue (is_port entry.port)))
unfolding ports_faults ports_in
each_port = no_fault.map_of port_ensures

each_port_once : Ensures ports_faults ports_in (EachOnce same_port)
unfolding ports_faults ports_in
each_port_once = map_each_once {Of = λ key entry. port_of key ≡ Some entry.port} same_port
    (λ key. record { holds = λ d at h. ((port_told key).holds d at h).0 })
    (λ key other a b p q same. text_of_port key other b.port (p ∙ ap Some ((Decides-eqb a.port b.port).0 same)) q)

no_ports : EachOnce same_port []
no_ports = λ i j d below inside. absurd (omega arith)

pub peer_ensures : (name namespace : List ℕ) (age : Option (List ℕ)) → IsTrue (is_subdomain name) → IsTrue (is_label namespace)
    → ForSome age (λ time. IsTrue (is_time time))
    → Ensures peer_faults (peer_in name namespace age) AcceptedPeer
unfolding peer_faults peer_in
peer_ensures name namespace age named placed aged = strict_object _ (record {
  holds = λ d at h. record {
    name = named;
    namespace = placed;
    age = aged;
    labels = (no_fault.optional_or SELECTOR.now [] no_labels selector_ensures).holds d at (earlier _ _ h);
    ports = (no_fault.optional_or PORT_LEVEL_MTLS.now [] (All-nil _) each_port).holds d at (later _ _ (later _ _ h));
    each_once = (no_fault.optional_or PORT_LEVEL_MTLS.now [] no_ports each_port_once).holds d at (later _ _ (later _ _ h));
  };
})

-- ---- RequestAuthentication

pub request_ensures : (name namespace : List ℕ) → IsTrue (is_subdomain name) → IsTrue (is_label namespace)
    → Ensures request_faults (request_in name namespace) AcceptedRequest
unfolding request_faults request_in
request_ensures name namespace named placed = strict_object _ (record {
  holds = λ d at h.
      let parts = (no_fault.optional_or SELECTOR.now [] no_labels selector_ensures ⨾⨾ any_targets ⨾⨾ entries JWT_RULES.now jwt_rule_ensures).holds d at h in
      record { name = named; namespace = placed; labels = parts.0; rules = parts.1.1 };
})
