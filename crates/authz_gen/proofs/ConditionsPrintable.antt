-- Conditions as trees: each can be written, and is no wider than it is large.
use Rattle.std.proofs.Common.{ℕ, ◌+◌, ◌*◌, ◌≤◌, All, List, length, map, arith}
use Rattle.std.proofs.lemmas.Bool.{and_parts}
use Rattle.mesh_policy.specs.AcceptedRules.{AcceptedCondition}
use Rattle.mesh_policy.specs.Sizes.{condition_size}
use Rattle.mesh_policy.specs.Values.{is_lower_name}
use Rattle.mesh_policy.specs.declared.condition.BlockKey.TheVariants.{SourceIp, RemoteIp, DestinationIp}
use Rattle.mesh_policy.specs.declared.condition.Condition.{Condition}
use Rattle.mesh_policy.specs.declared.condition.Condition.TheVariants.{Words, Blocks, Ports}
use Rattle.mesh_policy.specs.declared.condition.TextKey.TheVariants.{SourcePrincipal, SourceNamespace, Sni, Header, AuthPrincipal}
use Rattle.mesh_policy.specs.declared.condition.TextKey.TheVariants.{Audiences, Presenter, Claim}
use Rattle.mesh_tree.specs.declared.tree.Tree.{Tree}
use Rattle.envoy_types.specs.PermissionForms.{permission_form}
use Rattle.envoy_types.specs.PrincipalForms.{principal_form}
use Rattle.envoy_types.specs.TreeForms.{TreeForm}
use Rattle.authz_gen.specs.Conditions.{both_lists, destination_block, header_of, permission_of, principal_by, server_name_of}
use Rattle.authz_gen.specs.Lists.{all_of, field_of}
use Rattle.authz_gen.specs.Operations.{port_tree}
use Rattle.authz_gen.specs.Sources.{namespace_of, principal_of, remote_block, source_block}
use Rattle.authz_gen.proofs.Fits.{AllFit, Fits, all-of-fits, fits-more, lists-fit, no-trees, one-tree}
use Rattle.authz_gen.proofs.Small.{IsSmall, width_of}
use Rattle.authz_gen.proofs.FieldsPrintable.{HasAddress, IsPort, IsShort, destination-fits, header-fits, peer-fits, place-fits, port-fits}
use Rattle.authz_gen.proofs.FieldsPrintable.{remote-block-fits, server-fits, source-block-fits, texts-values}

-- both lists of a condition of so many values
both-lists-fit : {A L : Type 0} (form : TreeForm L) (tree : A → Tree L) (Good : A → Type 0) → ((x : A) → Good x → Fits form (tree x) 3)
    → (xs not_xs : List A) → All Good xs → All Good not_xs → (n : ℕ) → length xs + length not_xs ≤ n → n ≤ 2048 → (most : ℕ)
    → 1 + 3 * n ≤ most → AllFit form (both_lists tree xs not_xs) most
both-lists-fit form tree Good each xs not_xs h k n count few most size =
    let trees = field_of (map tree xs) (map tree not_xs) in
    let wide = 3 * length xs + 3 * length not_xs in
    let within : wide ≤ 3 * n = omega (arith, count) in
    let all : AllFit form trees wide = lists-fit form tree Good each xs not_xs h k (omega (arith, within, few)) in
    one-tree form (all_of trees) most
    (fits-more form (all_of trees) (1 + wide) most (all-of-fits form trees wide all (omega (arith, within, few)))
    (omega (arith, within, size)))

pub permission-of-fits : (c : Condition) → AcceptedCondition c → IsSmall (condition_size c)
    → AllFit permission_form (permission_of c) (width_of (condition_size c))
unfolding permission_of
permission-of-fits (Words Sni xs ns) h small =
    both-lists-fit permission_form server_name_of IsShort server-fits xs ns h.values.each h.not_values.each
    (condition_size (Words Sni xs ns)).values (omega (arith, texts-values xs, texts-values ns)) small.values
    (width_of (condition_size (Words Sni xs ns))) (omega arith)
permission-of-fits (Words SourcePrincipal xs ns) h small = no-trees permission_form _
permission-of-fits (Words SourceNamespace xs ns) h small = no-trees permission_form _
permission-of-fits (Words (Header name) xs ns) h small = no-trees permission_form _
permission-of-fits (Words AuthPrincipal xs ns) h small = no-trees permission_form _
permission-of-fits (Words Audiences xs ns) h small = no-trees permission_form _
permission-of-fits (Words Presenter xs ns) h small = no-trees permission_form _
permission-of-fits (Words (Claim names) xs ns) h small = no-trees permission_form _
permission-of-fits (Blocks DestinationIp xs ns) h small =
    both-lists-fit permission_form destination_block HasAddress destination-fits xs ns h.values.each h.not_values.each
    (condition_size (Blocks DestinationIp xs ns)).values (omega arith) small.values
    (width_of (condition_size (Blocks DestinationIp xs ns))) (omega arith)
permission-of-fits (Blocks SourceIp xs ns) h small = no-trees permission_form _
permission-of-fits (Blocks RemoteIp xs ns) h small = no-trees permission_form _
permission-of-fits (Ports xs ns) h small =
    both-lists-fit permission_form port_tree IsPort port-fits xs ns h.values.each h.not_values.each
    (condition_size (Ports xs ns)).values (omega arith) small.values (width_of (condition_size (Ports xs ns))) (omega arith)

pub principal-by-fits : (c : Condition) → AcceptedCondition c → IsSmall (condition_size c)
    → AllFit principal_form (principal_by c) (width_of (condition_size c))
unfolding principal_by
principal-by-fits (Words SourcePrincipal xs ns) h small =
    both-lists-fit principal_form principal_of IsShort peer-fits xs ns h.values.each h.not_values.each
    (condition_size (Words SourcePrincipal xs ns)).values (omega (arith, texts-values xs, texts-values ns)) small.values
    (width_of (condition_size (Words SourcePrincipal xs ns))) (omega arith)
principal-by-fits (Words SourceNamespace xs ns) h small =
    both-lists-fit principal_form namespace_of IsShort place-fits xs ns h.values.each h.not_values.each
    (condition_size (Words SourceNamespace xs ns)).values (omega (arith, texts-values xs, texts-values ns)) small.values
    (width_of (condition_size (Words SourceNamespace xs ns))) (omega arith)
principal-by-fits (Words Sni xs ns) h small = no-trees principal_form _
principal-by-fits (Words (Header name) xs ns) h small =
    both-lists-fit principal_form (header_of name) IsShort (header-fits name (and_parts (is_lower_name name) _ h.key).0) xs ns
    h.values.each h.not_values.each
    (condition_size (Words (Header name) xs ns)).values (omega (arith, texts-values xs, texts-values ns)) small.values
    (width_of (condition_size (Words (Header name) xs ns))) (omega arith)
principal-by-fits (Words AuthPrincipal xs ns) h small = no-trees principal_form _
principal-by-fits (Words Audiences xs ns) h small = no-trees principal_form _
principal-by-fits (Words Presenter xs ns) h small = no-trees principal_form _
principal-by-fits (Words (Claim names) xs ns) h small = no-trees principal_form _
principal-by-fits (Blocks SourceIp xs ns) h small =
    both-lists-fit principal_form source_block HasAddress source-block-fits xs ns h.values.each h.not_values.each
    (condition_size (Blocks SourceIp xs ns)).values (omega arith) small.values
    (width_of (condition_size (Blocks SourceIp xs ns))) (omega arith)
principal-by-fits (Blocks RemoteIp xs ns) h small =
    both-lists-fit principal_form remote_block HasAddress remote-block-fits xs ns h.values.each h.not_values.each
    (condition_size (Blocks RemoteIp xs ns)).values (omega arith) small.values
    (width_of (condition_size (Blocks RemoteIp xs ns))) (omega arith)
principal-by-fits (Blocks DestinationIp xs ns) h small = no-trees principal_form _
principal-by-fits (Ports xs ns) h small = no-trees principal_form _
