-- The filters so far, and those of what is left, are those of all.
use Rattle.std.proofs.Common.{◌≡◌, ◌++◌, map}
use Rattle.envoy_types.specs.declared.chains.NetworkFilter.TheVariants as network
use Rattle.chain_build.proofs.filters.network_filters.Given as goal

abbrev pub invariant-loop-filter : goal.invariant-loop-filter
invariant-loop-filter l = map network.Rbac l.fn.filters ≡ l.network ++ map network.Rbac l.filter-iterator.rest.items
