use Rattle.std.proofs.Common.{◌≡◌, drop, find}
use Rattle.std.specs.Str.{bytes_eq}
use Rattle.mesh_select.proofs.providers.named.Given as goal

abbrev pub invariant-loop-provider : goal.invariant-loop-provider
invariant-loop-provider l =
    find (λ provider. bytes_eq provider.name l.name) (drop l.provider-index l.providers)
    ≡ find (λ provider. bytes_eq provider.name l.name) l.providers
