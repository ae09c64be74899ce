-- The parts that selection finds give the modes, ports and reasons of the definitions.
use Rattle.std.proofs.Common.{◌≡◌, ℕ, Bool, not, ◌&&◌, ◌++◌, List, [], ◌∷◌, Option, filter, find, is_some, map, nat_lt, unwrap_or, refl, ◌∙◌, ap, ap₂}
use Rattle.std.specs.BTreeMap.{is_at}
use Rattle.std.specs.List.{list_any}
use Rattle.std.specs.Option.{option_and_then}
use Rattle.std.specs.Ordering.{nat_cmp}
use Rattle.std.specs.Str.{bytes_eq}
use Rattle.mesh_policy.specs.Applying.{peers_of}
use Rattle.mesh_policy.specs.Lists.{ascending, distinct_texts, first_some, least, text_before}
use Rattle.mesh_policy.specs.Modes as modes
use Rattle.mesh_policy.specs.Modes.{oldest, workload_policy, namespace_policy, mesh_policy, has_selector, is_of_root}
use Rattle.mesh_policy.specs.Ports.{GivenPort, given, gives_http, gives_tcp, listed, ports_of}
use Rattle.mesh_policy.specs.SelectFault.{conflicts_in}
use Rattle.mesh_policy.specs.declared.bundle.Bundle.{Bundle}
use Rattle.mesh_policy.specs.declared.peer.Mode.{Mode}
use Rattle.mesh_policy.specs.declared.peer.Mode.TheVariants.{Permissive}
use Rattle.mesh_policy.specs.declared.pod.Pod.{Pod}
use Rattle.mesh_policy.specs.declared.provider.Provider.{Provider}
use Rattle.mesh_policy.specs.declared.service.Protocol.TheVariants.{Http, Tcp}
use Rattle.mesh_select.specs.Modes.{has_width, levels_of, mode_from}
use Rattle.mesh_select.specs.Ports.{given_by_all, numbers_with}
use Rattle.mesh_select.specs.declared.modes.Width.TheVariants.{Workload, Namespace, Mesh}
use Rattle.mesh_select.proofs.Lookups.{distinct-found, filter-like, http-found, provider-found, tcp-found}

module _ (bundle : Bundle) (pod : Pod) where
  pub given-is : given bundle pod ≡ given_by_all pod bundle.services
  unfolding given
  given-is = refl

  pub workload-is : (levels_of bundle.mesh.root (peers_of bundle pod)).workload ≡ workload_policy bundle pod
  workload-is = ap oldest (filter-like (has_width Workload bundle.mesh.root) has_selector (λ p. refl) (peers_of bundle pod))

  pub namespace-is : (levels_of bundle.mesh.root (peers_of bundle pod)).namespace ≡ namespace_policy bundle pod
  namespace-is =
      ap oldest (filter-like (has_width Namespace bundle.mesh.root) (λ policy. not (has_selector policy) && not (is_of_root bundle policy))
      (λ p. refl) (peers_of bundle pod))

  pub mesh-is : (levels_of bundle.mesh.root (peers_of bundle pod)).mesh ≡ mesh_policy bundle pod
  mesh-is =
      ap oldest (filter-like (has_width Mesh bundle.mesh.root) (λ policy. not (has_selector policy) && is_of_root bundle policy)
      (λ p. refl) (peers_of bundle pod))

  -- the mode of a port, by what the policy for the workload says of it
  pub mode-is : (of_port : Option Mode)
      → mode_from of_port (levels_of bundle.mesh.root (peers_of bundle pod)) ≡ modes.mode_from of_port bundle pod
  mode-is of_port =
      ap (λ w. unwrap_or (first_some (of_port ∷ option_and_then (λ policy. policy.mode) w
      ∷ option_and_then (λ policy. policy.mode) (levels_of bundle.mesh.root (peers_of bundle pod)).namespace
      ∷ option_and_then (λ policy. policy.mode) (levels_of bundle.mesh.root (peers_of bundle pod)).mesh ∷ [])) Permissive) workload-is
      ∙ ap (λ n. unwrap_or (first_some (of_port ∷ option_and_then (λ policy. policy.mode) (workload_policy bundle pod)
      ∷ option_and_then (λ policy. policy.mode) n
      ∷ option_and_then (λ policy. policy.mode) (levels_of bundle.mesh.root (peers_of bundle pod)).mesh ∷ [])) Permissive) namespace-is
      ∙ ap (λ m. unwrap_or (first_some (of_port ∷ option_and_then (λ policy. policy.mode) (workload_policy bundle pod)
      ∷ option_and_then (λ policy. policy.mode) (namespace_policy bundle pod)
      ∷ option_and_then (λ policy. policy.mode) m ∷ [])) Permissive) mesh-is

  pub listed-is : ascending (map (λ entry. entry.number) (given_by_all pod bundle.services)
      ++ ports_of (levels_of bundle.mesh.root (peers_of bundle pod)).workload) ≡ listed bundle pod
  unfolding listed given
  listed-is = ap (λ w. ascending (map (λ entry. entry.number) (given_by_all pod bundle.services) ++ ports_of w)) workload-is

-- ---- reasons

-- the ports that are in both sets are those of two protocols
pub conflict-is : (ports : List GivenPort)
    → least nat_lt (filter
    (λ port. list_any (is_at (nat_cmp port)) (numbers_with Http ports) && list_any (is_at (nat_cmp port)) (numbers_with Tcp ports))
    (map (λ entry. entry.number) ports))
    ≡ least nat_lt (conflicts_in ports)
conflict-is ports =
    ap (least nat_lt) (filter-like
    (λ port. list_any (is_at (nat_cmp port)) (numbers_with Http ports) && list_any (is_at (nat_cmp port)) (numbers_with Tcp ports))
    (λ port. gives_http ports port && gives_tcp ports port)
    (λ port. ap₂ (λ (a b : Bool). a && b) (http-found port ports) (tcp-found port ports))
    (map (λ entry. entry.number) ports))

-- a text is in a set of texts where it is one of them
pub within-is : (names texts : List (List ℕ))
    → least text_before (filter (λ text. list_any (bytes_eq text) (distinct_texts names)) texts)
    ≡ least text_before (filter (λ text. list_any (bytes_eq text) names) texts)
within-is names texts =
    ap (least text_before) (filter-like (λ text. list_any (bytes_eq text) (distinct_texts names)) (λ text. list_any (bytes_eq text) names)
    (λ text. distinct-found text names) texts)

-- a name is not among those of authorizers where none has it
pub without-is : (providers : List Provider) (texts : List (List ℕ))
    → least text_before (filter (λ text. not (list_any (bytes_eq text) (distinct_texts (map (λ p. p.name) providers)))) texts)
    ≡ least text_before (filter (λ text. not (is_some (find (λ p. bytes_eq p.name text) providers))) texts)
without-is providers texts =
    ap (least text_before) (filter-like (λ text. not (list_any (bytes_eq text) (distinct_texts (map (λ p. p.name) providers))))
    (λ text. not (is_some (find (λ p. bytes_eq p.name text) providers)))
    (λ text. ap not (distinct-found text (map (λ p. p.name) providers) ∙ provider-found text providers)) texts)
