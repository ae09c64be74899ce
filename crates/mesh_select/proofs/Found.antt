-- What selection finds gives the reasons of the definitions, and the workload.
use Rattle.std.proofs.Common.{◌≡◌, ℕ, Bool, cond, not, ◌&&◌, List, [], ◌∷◌, length, Option, Some, None, filter, map, nat_lt, refl, sym, ◌∙◌, ap, ap₂}
use Rattle.std.specs.BTreeMap.{is_at}
use Rattle.std.specs.List.{list_any}
use Rattle.std.specs.Option.{option_and_then, option_map}
use Rattle.std.specs.Ordering.{nat_cmp}
use Rattle.std.specs.Str.{bytes_eq}
use Rattle.mesh_policy.specs.Applying.{authorization_of, peers_of}
use Rattle.mesh_policy.specs.Lists.{distinct_texts, least, text_before}
use Rattle.mesh_policy.specs.Modes as modes
use Rattle.mesh_policy.specs.Modes.{port_mode}
use Rattle.mesh_policy.specs.Ports.{GivenPort, gives_http, listed, protocol_at}
use Rattle.mesh_policy.specs.SelectFault as fault
use Rattle.mesh_policy.specs.SelectFault.{conflicts_in}
use Rattle.mesh_policy.specs.Workload.{ListedPort, jwt_rules_of, policies_of, port_of, provider_of, workload_of}
use Rattle.mesh_policy.specs.declared.bundle.Bundle.{Bundle}
use Rattle.mesh_policy.specs.declared.peer.Mode.{Mode}
use Rattle.mesh_policy.specs.declared.pod.Pod.{Pod}
use Rattle.mesh_policy.specs.declared.policy.Action.TheVariants.{Allow, Deny, Audit, Custom}
use Rattle.mesh_policy.specs.declared.service.Protocol.{Protocol}
use Rattle.mesh_policy.specs.declared.service.Protocol.TheVariants.{Http, Tcp}
use Rattle.mesh_select.specs.Build.{port_with, protocol_in}
use Rattle.mesh_select.specs.Modes.{Levels, levels_of, mode_from}
use Rattle.mesh_select.specs.Ports.{given_by_all, numbers_with}
use Rattle.mesh_select.specs.Workload.{view_of}
use Rattle.mesh_select.specs.declared.workload.Workload.TheInside.{Inside}
use Rattle.mesh_select.proofs.Lookups.{http-found}
use Rattle.mesh_select.proofs.Reasons.{conflict-is, given-is, mode-is, within-is, without-is, workload-is}

-- the least port of both sets
abbrev both : List ℕ → List ℕ → List GivenPort → Option ℕ
both http tcp ports =
    least nat_lt (filter (λ port. list_any (is_at (nat_cmp port)) http && list_any (is_at (nat_cmp port)) tcp)
    (map (λ entry. entry.number) ports))

module _ (bundle : Bundle) (pod : Pod) where
  abbrev ports : List GivenPort
  ports = given_by_all pod bundle.services

  abbrev levels : Levels
  levels = levels_of bundle.mesh.root (peers_of bundle pod)

  pub port-reason : (http tcp : List ℕ) (entries : List GivenPort) (found : Option ℕ) → entries ≡ ports
      → http ≡ numbers_with Http ports → tcp ≡ numbers_with Tcp entries → found ≡ both http tcp entries
      → option_map (λ port. fault.port_conflict port Http Tcp) found ≡ fault.port_fault bundle pod
  port-reason http tcp entries found p h t f =
      ap (λ (found : Option ℕ). option_map (λ port. fault.port_conflict port Http Tcp) found)
      (f ∙ ap (λ (x : List ℕ). both http x entries) (t ∙ ap (numbers_with Tcp) p)
      ∙ ap (λ (x : List ℕ). both x (numbers_with Tcp ports) entries) h
      ∙ ap (λ (x : List GivenPort). both (numbers_with Http ports) (numbers_with Tcp ports) x) p
      ∙ conflict-is ports
      ∙ ap (λ (x : List GivenPort). least nat_lt (conflicts_in x)) (sym (given-is bundle pod)))

  pub unknown-reason : (written known : List (List ℕ)) (found : Option (List ℕ)) → written ≡ fault.providers_of bundle pod
      → known ≡ distinct_texts (map (λ provider. provider.name) bundle.mesh.providers)
      → found ≡ least text_before (filter (λ text. not (list_any (bytes_eq text) known)) written)
      → option_map fault.unknown_provider found ≡ fault.unknown_fault bundle pod
  unknown-reason written known found w k f =
      ap (λ (found : Option (List ℕ)). option_map fault.unknown_provider found)
      (f ∙ ap (λ (x : List (List ℕ)). least text_before (filter (λ text. not (list_any (bytes_eq text) x)) written)) k
      ∙ ap (λ (x : List (List ℕ)). least text_before
      (filter (λ text. not (list_any (bytes_eq text) (distinct_texts (map (λ provider. provider.name) bundle.mesh.providers)))) x)) w
      ∙ without-is bundle.mesh.providers (fault.providers_of bundle pod))

  pub header-reason : (tested changed : List (List ℕ)) (found : Option (List ℕ))
      → tested ≡ fault.tested_headers (authorization_of bundle pod)
      → changed ≡ distinct_texts (fault.changed_headers (jwt_rules_of bundle pod))
      → found ≡ least text_before (filter (λ text. list_any (bytes_eq text) changed) tested)
      → option_map fault.token_header_tested found ≡ fault.header_fault bundle pod
  header-reason tested changed found t c f =
      ap (λ (found : Option (List ℕ)). option_map fault.token_header_tested found)
      (f ∙ ap (λ (x : List (List ℕ)). least text_before (filter (λ text. list_any (bytes_eq text) x) tested)) c
      ∙ ap (λ (x : List (List ℕ)). least text_before
      (filter (λ text. list_any (bytes_eq text) (distinct_texts (fault.changed_headers (jwt_rules_of bundle pod)))) x)) t
      ∙ within-is (fault.changed_headers (jwt_rules_of bundle pod)) (fault.tested_headers (authorization_of bundle pod)))

  pub number-reason : (numbers : List ℕ) (b : Bool) → numbers ≡ listed bundle pod → nat_lt 16 (length numbers) ≡ b
      → fault.number_fault bundle pod ≡ cond b (Some (fault.too_many_ports (length numbers))) None
  number-reason numbers b n over =
      ap (λ (x : List ℕ). cond (nat_lt 16 (length x)) (Some (fault.too_many_ports (length x))) None) (sym n)
      ∙ ap (λ (b : Bool). cond b (Some (fault.too_many_ports (length numbers))) None) over

-- ---- the ports of the workload

map-like : {A B : Type 0} (f g : A → B) → ((x : A) → f x ≡ g x) → (xs : List A) → map f xs ≡ map g xs
map-like f g like [] = refl
map-like {A} {B} f g like (x ∷ xs) = ap₂ (λ (y : B) (ys : List B). y ∷ ys) (like x) (map-like f g like xs)

pub numbers-of : (http : List ℕ) (found : Levels) (numbers : List ℕ)
    → map (λ port. port.number) (map (port_with http found) numbers) ≡ numbers
numbers-of http found [] = refl
numbers-of http found (n ∷ ns) = ap (λ (r : List ℕ). n ∷ r) (numbers-of http found ns)

module _ (bundle : Bundle) (pod : Pod) where
  protocol-is : (port : ℕ) → protocol_in (numbers_with Http (ports bundle pod)) port ≡ protocol_at bundle pod port
  unfolding protocol_at
  protocol-is port =
      ap (λ (b : Bool). cond b Http Tcp) (http-found port (ports bundle pod)
      ∙ ap (λ (x : List GivenPort). gives_http x port) (sym (given-is bundle pod)))

  port-mode-is : (port : ℕ)
      → mode_from (option_and_then (port_mode port) (levels bundle pod).workload) (levels bundle pod) ≡ modes.mode_at bundle pod port
  unfolding modes.mode_at
  port-mode-is port =
      ap (λ w. mode_from (option_and_then (port_mode port) w) (levels bundle pod)) (workload-is bundle pod)
      ∙ mode-is bundle pod (option_and_then (port_mode port) (modes.workload_policy bundle pod))

  abbrev listed-at : ℕ → Protocol → Mode → ListedPort
  listed-at port protocol mode = record { number = port; protocol = protocol; mode = mode }

  port-is : (port : ℕ) → port_with (numbers_with Http (ports bundle pod)) (levels bundle pod) port ≡ port_of bundle pod port
  port-is port = ap₂ (listed-at port) (protocol-is port) (port-mode-is port)

  pub ports-are : (http : List ℕ) (found : Levels) (numbers : List ℕ) → http ≡ numbers_with Http (ports bundle pod)
      → found ≡ levels bundle pod → numbers ≡ listed bundle pod
      → map (port_with http found) numbers ≡ map (port_of bundle pod) (listed bundle pod)
  ports-are http found numbers h l n =
      ap (λ (x : List ℕ). map (port_with x found) numbers) h
      ∙ ap (λ (x : Levels). map (port_with (numbers_with Http (ports bundle pod)) x) numbers) l
      ∙ map-like (port_with (numbers_with Http (ports bundle pod)) (levels bundle pod)) (port_of bundle pod) port-is numbers
      ∙ ap (map (port_of bundle pod)) n

  pub other-mode-is : (found : Levels) → found ≡ levels bundle pod → mode_from None found ≡ modes.other_mode bundle pod
  unfolding modes.other_mode
  other-mode-is found l = ap (mode_from None) l ∙ mode-is bundle pod None

  -- a workload is that of the definition where each of its parts is
  pub view-is : (w : Inside) → w.ports ≡ map (port_of bundle pod) (listed bundle pod) → w.other_mode ≡ modes.other_mode bundle pod
      → w.allow ≡ policies_of Allow bundle pod → w.deny ≡ policies_of Deny bundle pod → w.audit ≡ policies_of Audit bundle pod
      → w.custom ≡ policies_of Custom bundle pod → w.jwt_rules ≡ jwt_rules_of bundle pod → w.provider ≡ provider_of bundle pod
      → view_of w ≡ workload_of bundle pod
  unfolding workload_of
  view-is w ports other_mode allow deny audit custom jwt_rules provider = λ i. record {
    ports = ports i;
    other_mode = other_mode i;
    allow = allow i;
    deny = deny i;
    audit = audit i;
    custom = custom i;
    jwt_rules = jwt_rules i;
    provider = provider i;
  }
