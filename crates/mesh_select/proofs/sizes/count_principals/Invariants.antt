use Rattle.std.proofs.Common.{◌≡◌, ◌+◌, drop, map}
use Rattle.mesh_policy.specs.Sizes.{principal_size, sum_of}
use Rattle.mesh_select.proofs.sizes.count_principals.Given as goal

abbrev pub invariant-loop-value : goal.invariant-loop-value
invariant-loop-value l = record {
  values : l.counts.values + (sum_of (map principal_size (drop l.value-index l.values))).values
      ≡ l.fn.counts.values + (sum_of (map principal_size l.values)).values;
  entries : l.counts.entries + (sum_of (map principal_size (drop l.value-index l.values))).entries
      ≡ l.fn.counts.entries + (sum_of (map principal_size l.values)).entries;
  bytes : l.counts.bytes + (sum_of (map principal_size (drop l.value-index l.values))).bytes
      ≡ l.fn.counts.bytes + (sum_of (map principal_size l.values)).bytes;
}
