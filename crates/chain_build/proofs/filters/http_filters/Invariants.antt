-- The filters so far, and those of what is left, are those of all.
use Rattle.std.proofs.Common.{◌≡◌, ◌++◌, map}
use Rattle.envoy_types.specs.declared.chains.HttpFilter.TheVariants as http
use Rattle.chain_build.proofs.filters.http_filters.Given as goal

abbrev pub invariant-loop-filter : goal.invariant-loop-filter
invariant-loop-filter l = map http.Rbac l.fn.filters ≡ l.http ++ map http.Rbac l.filter-iterator.rest.items
