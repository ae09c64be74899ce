-- The permission and the principal of a rule are written as values that are nested little and hold no float.
use Rattle.std.proofs.Common.{◌≡◌, ℕ, suc, nat_eq, Bool, true, false, List, [], ◌∷◌, ◌++◌, drop, length, map, codes, cond}
use Rattle.std.proofs.Common.{Option, None, Some, refl, ◌∙◌}
use Rattle.std.proofs.lemmas.Bool.{and_from}
use Rattle.std.proofs.lemmas.List.Folds.{list_all-append}
use Rattle.std.specs.List.{flat_map, starts_with}
use Rattle.std.specs.Option.{option_map}
use Rattle.serde_json.specs.Data.{string}
use Rattle.mesh_net.specs.Written.{ip_text}
use Rattle.mesh_net.specs.declared.cidr.Cidr.{Cidr}
use Rattle.mesh_policy.specs.PeerNames.{scheme}
use Rattle.mesh_policy.specs.Pattern.{pattern_of}
use Rattle.mesh_policy.specs.Template.{has_slash, template_of}
use Rattle.mesh_policy.specs.declared.condition.BlockKey.TheVariants.{SourceIp, RemoteIp, DestinationIp}
use Rattle.mesh_policy.specs.declared.condition.Condition.{Condition}
use Rattle.mesh_policy.specs.declared.condition.Condition.TheVariants.{Words, Blocks, Ports}
use Rattle.mesh_policy.specs.declared.condition.TextKey.TheVariants.{SourcePrincipal, SourceNamespace, Sni}
use Rattle.mesh_policy.specs.declared.condition.TextKey.TheVariants.{Header, AuthPrincipal, Audiences, Presenter, Claim}
use Rattle.mesh_policy.specs.declared.pattern.Pattern.{Pattern}
use Rattle.mesh_policy.specs.declared.pattern.Pattern.TheVariants.{Exact, Prefix, Suffix, Present}
use Rattle.mesh_policy.specs.declared.policy.OperationSpec.{OperationSpec}
use Rattle.mesh_policy.specs.declared.policy.Rule.{Rule}
use Rattle.mesh_policy.specs.declared.policy.SourceSpec.{SourceSpec}
use Rattle.mesh_tree.specs.Joined.{and_of}
use Rattle.mesh_tree.specs.Tree.{tree_of}
use Rattle.mesh_tree.specs.declared.tree.Node.TheVariants as Node
use Rattle.mesh_tree.specs.declared.tree.Tree.{Tree}
use Rattle.envoy_types.specs.BlockForms.{block_written}
use Rattle.envoy_types.specs.HeaderForms.{header_test_field, header_written}
use Rattle.envoy_types.specs.PermissionForms.{permission_form, permission_leaf_written, uri_template_written}
use Rattle.envoy_types.specs.PrincipalForms.{authenticated_written, principal_form, principal_leaf_written}
use Rattle.envoy_types.specs.StringForms.{match_key, string_written}
use Rattle.envoy_types.specs.Strings.{matcher_of, matcher_with}
use Rattle.envoy_types.specs.TreeForms.{TreeForm}
use Rattle.envoy_types.specs.WrittenFields.{config_written, field, number_written, optional_field, truth_field}
use Rattle.envoy_types.specs.declared.headers.HeaderMatch.{HeaderMatch}
use Rattle.envoy_types.specs.declared.headers.HeaderTest.{HeaderTest}
use Rattle.envoy_types.specs.declared.headers.HeaderTest.TheVariants as test
use Rattle.envoy_types.specs.declared.keys.TheConstants.{ADDRESS_PREFIX, IGNORE_CASE, NAME, PATH_TEMPLATE, PREFIX_LEN, PRINCIPAL_NAME}
use Rattle.envoy_types.specs.declared.names.TheConstants.{URI_TEMPLATE_NAME, URI_TEMPLATE_TYPE}
use Rattle.envoy_types.specs.declared.permission.PermissionLeaf.TheVariants.{DestinationIp as ToAddress, DestinationPort}
use Rattle.envoy_types.specs.declared.permission.PermissionLeaf.TheVariants.{Header as AskedHeader, ServerName, UriTemplate, UrlPath}
use Rattle.envoy_types.specs.declared.principal.PrincipalLeaf.{PrincipalLeaf}
use Rattle.envoy_types.specs.declared.principal.PrincipalLeaf.TheVariants.{Authenticated, DirectRemoteIp, Header as AskingHeader}
use Rattle.envoy_types.specs.declared.principal.PrincipalLeaf.TheVariants.{RemoteIp as Remote}
use Rattle.envoy_types.specs.declared.strings.MatchKind.TheVariants as kind
use Rattle.envoy_types.specs.declared.strings.StringMatcher.{StringMatcher}
use Rattle.str_match.specs.Headers.{header_by, header_test, header_tree, host_tree, method_tree}
use Rattle.str_match.specs.Paths.{on_path, path_as, path_by, path_tree}
use Rattle.str_match.specs.ServerName.{asked_for, asked_for_by, sni_tree}
use Rattle.peer_name.specs.Namespace.{has_no_part, has_part, is_end_of_ns, is_front_of_sa, namespace_segment, namespace_tree, nobody}
use Rattle.peer_name.specs.Principal as principal
use Rattle.peer_name.specs.Principal.{all_but_shorter, named, not_named, scheme_ends}
use Rattle.authz_gen.specs.Conditions.{both_lists, destination_block, header_of, permission_of, principal_by, server_name_of}
use Rattle.authz_gen.specs.Lists.{field_of}
use Rattle.authz_gen.specs.Operations.{host_of, method_of, operation_tree, port_tree}
use Rattle.authz_gen.specs.Rules.{permission_tree, principal_tree}
use Rattle.authz_gen.specs.Sources.{namespace_of, principal_of, remote_block, source_block, source_tree}
use Rattle.chain_build.proofs.Small.{config-small, is_small, named-small, object-small, value_small}
use Rattle.chain_build.proofs.TreesSmall.{all_low, low, low-all_of, low-and_of, low-any, low-deeper, low-deeper-4}
use Rattle.chain_build.proofs.TreesSmall.{low-field, low-if_or, low-leaf, low-not}

-- ---- leaves

string-small : (n : ℕ) (m : StringMatcher) → is_small (suc n) (string_written m) ≡ true
unfolding string_written
string-small n m =
    object-small n (field (match_key m.kind) (string m.text) ∷ truth_field IGNORE_CASE.now m.ignore_case ∷ [])
    (and_from _ _ refl (and_from _ _ (truth m.ignore_case) refl)) where
      truth : (b : Bool) → value_small n (truth_field IGNORE_CASE.now b).1 ≡ true
      truth true = refl
      truth false = refl

block-small : (n : ℕ) (block : Cidr) → is_small (suc n) (block_written block) ≡ true
unfolding block_written
block-small n block =
    object-small n (field ADDRESS_PREFIX.now (string (ip_text block.addr)) ∷ field PREFIX_LEN.now (number_written block.len) ∷ []) refl

authenticated-small : (n : ℕ) (name : Option StringMatcher) → is_small (suc (suc n)) (authenticated_written name) ≡ true
unfolding authenticated_written
authenticated-small n name =
    object-small (suc n) (optional_field PRINCIPAL_NAME.now string_written name ∷ []) (and_from _ _ (value name) refl) where
      value : (name : Option StringMatcher) → value_small (suc n) (option_map string_written name) ≡ true
      value None = refl
      value (Some m) = string-small n m

-- a peer, whatever its name is tested by
peer-low : (n : ℕ) (name : Option StringMatcher) → low principal_form (suc (suc (suc n))) (tree_of (Node.Leaf (Authenticated name))) ≡ true
unfolding principal_leaf_written
peer-low n name = low-leaf principal_form _ (Authenticated name) (and_from _ _ (authenticated-small n name) refl)

source_block-low : (n : ℕ) (block : Cidr) → low principal_form (suc (suc n)) (source_block block) ≡ true
unfolding principal_leaf_written
source_block-low n block = low-leaf principal_form _ (DirectRemoteIp block) (and_from _ _ (block-small n block) refl)

remote_block-low : (n : ℕ) (block : Cidr) → low principal_form (suc (suc n)) (remote_block block) ≡ true
unfolding principal_leaf_written
remote_block-low n block = low-leaf principal_form _ (Remote block) (and_from _ _ (block-small n block) refl)

destination_block-low : (n : ℕ) (block : Cidr) → low permission_form (suc (suc n)) (destination_block block) ≡ true
unfolding permission_leaf_written
destination_block-low n block = low-leaf permission_form _ (ToAddress block) (and_from _ _ (block-small n block) refl)

port-low : (n port : ℕ) → low permission_form (suc n) (port_tree port) ≡ true
unfolding permission_leaf_written
port-low n port = low-leaf permission_form (suc n) (DestinationPort port) refl

asked_for-low : (n : ℕ) (m : StringMatcher) → low permission_form (suc (suc n)) (asked_for m) ≡ true
unfolding permission_leaf_written
asked_for-low n m = low-leaf permission_form _ (ServerName m) (and_from _ _ (string-small n m) refl)

header-small : (n : ℕ) (h : HeaderMatch) → is_small (suc (suc n)) (header_written h) ≡ true
unfolding header_written
header-small n h =
    object-small (suc n) (field NAME.now (string h.name) ∷ header_test_field h.test ∷ [])
    (and_from _ _ refl (and_from _ _ (value h.test) refl)) where
      value : (t : HeaderTest) → value_small (suc n) (header_test_field t).1 ≡ true
      value test.Present = refl
      value (test.Words m) = string-small n m

asked_header-small : (n : ℕ) (h : HeaderMatch) → is_small (suc (suc (suc n))) (permission_leaf_written (AskedHeader h)) ≡ true
unfolding permission_leaf_written
asked_header-small n h = and_from _ _ (header-small n h) refl

asking_header-small : (n : ℕ) (h : HeaderMatch) → is_small (suc (suc (suc n))) (principal_leaf_written (AskingHeader h)) ≡ true
unfolding principal_leaf_written
asking_header-small n h = and_from _ _ (header-small n h) refl

on_path-low : (n : ℕ) (m : StringMatcher) → low permission_form (suc (suc (suc n))) (on_path m) ≡ true
unfolding permission_leaf_written
on_path-low n m = low-leaf permission_form _ (UrlPath m) (and_from _ _ (and_from _ _ (string-small n m) refl) refl)

uri-small : (n : ℕ) (uri : List ℕ) → is_small (suc (suc n)) (uri_template_written uri) ≡ true
unfolding uri_template_written
uri-small n uri =
    let fields = field PATH_TEMPLATE.now (string uri) ∷ [] in
    named-small (suc n) URI_TEMPLATE_NAME.now (config_written URI_TEMPLATE_TYPE.now fields)
    (config-small n URI_TEMPLATE_TYPE.now fields refl)

uri-low : (n : ℕ) (uri : List ℕ) → low permission_form (suc (suc (suc n))) (tree_of (Node.Leaf (UriTemplate uri))) ≡ true
unfolding permission_leaf_written
uri-low n uri = low-leaf permission_form _ (UriTemplate uri) (and_from _ _ (uri-small n uri) refl)

-- ---- values

-- the trees of several values
all_low-map : {A L : Type 0} (form : TreeForm L) (n : ℕ) (tree : A → Tree L) → ((x : A) → low form n (tree x) ≡ true) → (xs : List A)
    → all_low form n (map tree xs) ≡ true
all_low-map form n tree each [] = refl
all_low-map form n tree each (x ∷ xs) = and_from _ _ (each x) (all_low-map form n tree each xs)

server_name-low : (value : List ℕ) → low permission_form 99 (server_name_of value) ≡ true
unfolding sni_tree
server_name-low value = at (matcher_of (pattern_of value) false) where
  at : (m : Option StringMatcher) → low permission_form 99 (asked_for_by m) ≡ true
  at None = low-not permission_form 98 _ (asked_for-low 96 _)
  at (Some m) = asked_for-low 97 m

-- the exclusions of a suffix
shorter-low : (suffix : List ℕ) (ends : List (List ℕ)) → all_low principal_form 96 (flat_map (all_but_shorter suffix) ends) ≡ true
shorter-low suffix [] = refl
shorter-low suffix (end ∷ ends) =
    list_all-append (low principal_form 96) (all_but_shorter suffix end) (flat_map (all_but_shorter suffix) ends)
    ∙ and_from _ _ (at (starts_with nat_eq suffix end)) (shorter-low suffix ends) where
      name : List ℕ
      name = scheme ++ drop (length end) suffix

      at : (b : Bool) → all_low principal_form 96 (cond b (not_named name ∷ []) []) ≡ true
      at true = and_from _ _ (low-not principal_form 95 _ (peer-low 92 _)) refl
      at false = refl

principal_at-low : (p : Pattern) → low principal_form 99 (principal.principal_tree p) ≡ true
unfolding principal.principal_tree principal.suffix_tree
principal_at-low (Exact v) = peer-low 96 _
principal_at-low (Prefix v) = peer-low 96 _
principal_at-low (Suffix v) =
    low-and_of principal_form 96 (named kind.Suffix v ∷ flat_map (all_but_shorter v) scheme_ends)
    (and_from _ _ (peer-low 93 _) (shorter-low v scheme_ends))
principal_at-low Present = peer-low 96 None

-- a part of the name, and maybe a part that it hasn't
parts-low : (part other : List ℕ) (b : Bool) → low principal_form 99 (and_of (has_part part ∷ (cond b (has_no_part other ∷ []) []))) ≡ true
parts-low part other true =
    low-and_of principal_form 96 (has_part part ∷ has_no_part other ∷ [])
    (and_from _ _ (peer-low 93 _) (and_from _ _ (low-not principal_form 95 _ (peer-low 92 _)) refl))
parts-low part other false = low-and_of principal_form 96 (has_part part ∷ []) (and_from _ _ (peer-low 93 _) refl)

nobody-low : low principal_form 99 nobody ≡ true
nobody-low = low-not principal_form 98 _ (low-any principal_form 97)

unless_nobody : (b : Bool) (tree : Tree PrincipalLeaf) → low principal_form 99 tree ≡ true
    → low principal_form 99 (cond b nobody tree) ≡ true
unless_nobody true tree h = nobody-low
unless_nobody false tree h = h

namespace_at-low : (p : Pattern) → low principal_form 99 (namespace_tree p) ≡ true
unfolding namespace_tree
namespace_at-low (Exact v) = unless_nobody (has_slash v) _ (peer-low 96 _)
namespace_at-low (Prefix v) =
    unless_nobody (has_slash v) _
    (parts-low (codes "/ns/" ++ v) (namespace_segment (codes "ns")) (is_front_of_sa v))
namespace_at-low (Suffix v) =
    unless_nobody (has_slash v) _
    (parts-low (v ++ codes "/sa/") (namespace_segment (codes "sa")) (is_end_of_ns v))
namespace_at-low Present = peer-low 96 None

-- ---- values that only a request is tested by

-- a header by a string form, as a leaf of either kind
module _ {L : Type 0} (form : TreeForm L) (leaf : HeaderMatch → L)
    (leaf-small : (n : ℕ) (h : HeaderMatch) → is_small (suc (suc (suc n))) (form.leaf_written (leaf h)) ≡ true) (name : List ℕ) where
  test-low : (n : ℕ) (t : HeaderTest) → low form (suc (suc (suc n))) (header_test leaf name t) ≡ true
  test-low n t = let header : HeaderMatch = record { name = name; test = t } in low-leaf form _ (leaf header) (leaf-small n header)

  by-low : (m : Option StringMatcher) → low form 99 (header_by leaf name m) ≡ true
  by-low None =
      let empty = header_test leaf name (test.Words (matcher_with kind.Exact [] false)) in
      low-and_of form 96 (header_test leaf name test.Present ∷ tree_of (Node.Not empty) ∷ [])
      (and_from _ _ (test-low 93 test.Present)
      (and_from _ _ (low-not form 95 empty (test-low 92 (test.Words (matcher_with kind.Exact [] false)))) refl))
  by-low (Some m) = test-low 96 (test.Words m)

host-low : (value : List ℕ) → low permission_form 99 (host_of value) ≡ true
unfolding host_tree
host-low value = by-low permission_form AskedHeader asked_header-small (codes ":authority") (matcher_of (pattern_of value) true)

method-low : (value : List ℕ) → low permission_form 99 (method_of value) ≡ true
unfolding method_tree
method-low value = by-low permission_form AskedHeader asked_header-small (codes ":method") (matcher_of (pattern_of value) false)

header-low : (name value : List ℕ) → low principal_form 99 (header_of name value) ≡ true
unfolding header_tree
header-low name value = by-low principal_form AskingHeader asking_header-small name (matcher_of (pattern_of value) false)

path_by-low : (m : Option StringMatcher) → low permission_form 99 (path_by m) ≡ true
path_by-low None = low-not permission_form 98 _ (on_path-low 95 (matcher_with kind.Exact [] false))
path_by-low (Some m) = on_path-low 96 m

path_as-low : (uri : Option (List ℕ)) (value : List ℕ) → low permission_form 99 (path_as uri value) ≡ true
path_as-low None value = path_by-low (matcher_of (pattern_of value) false)
path_as-low (Some uri) value = uri-low 96 uri

path-low : (value : List ℕ) → low permission_form 99 (path_tree value) ≡ true
unfolding path_tree
path-low value = path_as-low (template_of value) value

-- ---- fields

-- a field by the trees of its values
field_low : {A L : Type 0} (form : TreeForm L) (tree : A → Tree L) → ((x : A) → low form 99 (tree x) ≡ true) → (xs not_xs : List A)
    → all_low form 103 (field_of (map tree xs) (map tree not_xs)) ≡ true
field_low form tree each xs not_xs =
    low-field form 99 _ _ (all_low-map form 99 tree each xs) (all_low-map form 99 tree each not_xs)

both_low : {A L : Type 0} (form : TreeForm L) (tree : A → Tree L) → ((x : A) → low form 99 (tree x) ≡ true) → (xs not_xs : List A)
    → all_low form 110 (both_lists tree xs not_xs) ≡ true
both_low form tree each xs not_xs =
    and_from _ _ (low-deeper-4 form 106 _ (low-all_of form 103 _ (field_low form tree each xs not_xs))) refl

appended : {L : Type 0} (form : TreeForm L) (n : ℕ) (xs ys : List (Tree L)) → all_low form n xs ≡ true → all_low form n ys ≡ true
    → all_low form n (xs ++ ys) ≡ true
appended form n xs ys h k = list_all-append (low form n) xs ys ∙ and_from _ _ h k

-- ---- operations and sources

operation-low : (operation : OperationSpec) → low permission_form 107 (operation_tree operation) ≡ true
unfolding operation_tree
operation-low operation =
    let hosts = field_low permission_form host_of host-low operation.hosts operation.not_hosts in
    let ports = field_low permission_form port_tree (port-low 98) operation.ports operation.not_ports in
    let methods = field_low permission_form method_of method-low operation.methods operation.not_methods in
    let paths = field_low permission_form path_tree path-low operation.paths operation.not_paths in
    low-deeper permission_form 106 _
    (low-all_of permission_form 103 _
    (appended permission_form 103 _ _
    (appended permission_form 103 _ _ (appended permission_form 103 _ _ hosts ports) methods) paths))

source-low : (source : SourceSpec) → low principal_form 107 (source_tree source) ≡ true
unfolding source_tree
source-low source =
    let principals = field_low principal_form principal_of (λ v. principal_at-low (pattern_of v)) source.principals source.not_principals in
    let namespaces = field_low principal_form namespace_of (λ v. namespace_at-low (pattern_of v)) source.namespaces source.not_namespaces in
    let blocks = field_low principal_form source_block (source_block-low 97) source.ip_blocks source.not_ip_blocks in
    let remote = field_low principal_form remote_block (remote_block-low 97) source.remote_ip_blocks source.not_remote_ip_blocks in
    low-deeper principal_form 106 _
    (low-all_of principal_form 103 _
    (appended principal_form 103 _ _
    (appended principal_form 103 _ _ (appended principal_form 103 _ _ principals namespaces) blocks) remote))

-- ---- conditions

permission_of-low : (condition : Condition) → all_low permission_form 110 (permission_of condition) ≡ true
unfolding permission_of
permission_of-low (Words Sni vs ns) = both_low permission_form server_name_of server_name-low vs ns
permission_of-low (Words SourcePrincipal vs ns) = refl
permission_of-low (Words SourceNamespace vs ns) = refl
permission_of-low (Words (Header name) vs ns) = refl
permission_of-low (Words AuthPrincipal vs ns) = refl
permission_of-low (Words Audiences vs ns) = refl
permission_of-low (Words Presenter vs ns) = refl
permission_of-low (Words (Claim names) vs ns) = refl
permission_of-low (Blocks DestinationIp vs ns) = both_low permission_form destination_block (destination_block-low 97) vs ns
permission_of-low (Blocks SourceIp vs ns) = refl
permission_of-low (Blocks RemoteIp vs ns) = refl
permission_of-low (Ports vs ns) = both_low permission_form port_tree (port-low 98) vs ns

principal_by-low : (condition : Condition) → all_low principal_form 110 (principal_by condition) ≡ true
unfolding principal_by
principal_by-low (Words SourcePrincipal vs ns) = both_low principal_form principal_of (λ v. principal_at-low (pattern_of v)) vs ns
principal_by-low (Words SourceNamespace vs ns) = both_low principal_form namespace_of (λ v. namespace_at-low (pattern_of v)) vs ns
principal_by-low (Words Sni vs ns) = refl
principal_by-low (Words (Header name) vs ns) = both_low principal_form (header_of name) (header-low name) vs ns
principal_by-low (Words AuthPrincipal vs ns) = refl
principal_by-low (Words Audiences vs ns) = refl
principal_by-low (Words Presenter vs ns) = refl
principal_by-low (Words (Claim names) vs ns) = refl
principal_by-low (Blocks SourceIp vs ns) = both_low principal_form source_block (source_block-low 97) vs ns
principal_by-low (Blocks RemoteIp vs ns) = both_low principal_form remote_block (remote_block-low 97) vs ns
principal_by-low (Blocks DestinationIp vs ns) = refl
principal_by-low (Ports vs ns) = refl

conditions-low : {L : Type 0} (form : TreeForm L) (side : Condition → List (Tree L)) → ((c : Condition) → all_low form 110 (side c) ≡ true)
    → (cs : List Condition) → all_low form 110 (flat_map side cs) ≡ true
conditions-low form side each [] = refl
conditions-low form side each (c ∷ cs) = appended form 110 (side c) (flat_map side cs) (each c) (conditions-low form side each cs)

-- ---- rules, by the 113 levels that an HTTP chain leaves them of a listener's 126 (a TCP chain leaves three more)

pub permission-low : (rule : Rule) → low permission_form 113 (permission_tree rule) ≡ true
unfolding permission_tree
permission-low rule =
    low-all_of permission_form 110 _
    (appended permission_form 110 _ _
    (low-if_or permission_form 107 _ (all_low-map permission_form 107 operation_tree operation-low rule.operations))
    (conditions-low permission_form permission_of permission_of-low rule.conditions))

pub principal-low : (rule : Rule) → low principal_form 113 (principal_tree rule) ≡ true
unfolding principal_tree
principal-low rule =
    low-all_of principal_form 110 _
    (appended principal_form 110 _ _
    (low-if_or principal_form 107 _ (all_low-map principal_form 107 source_tree source-low rule.sources))
    (conditions-low principal_form principal_by principal_by-low rule.conditions))
