use Rattle.std.proofs.Common.{◌≡◌, ◌+◌, drop, map}
use Rattle.mesh_policy.specs.Sizes.{text_size, sum_of}
use Rattle.mesh_select.proofs.sizes.count_names.Given as goal

abbrev pub invariant-loop-name : goal.invariant-loop-name
invariant-loop-name l = record {
  values : l.counts.values + (sum_of (map text_size (drop l.name-index l.names))).values
      ≡ l.fn.counts.values + (sum_of (map text_size l.names)).values;
  entries : l.counts.entries + (sum_of (map text_size (drop l.name-index l.names))).entries
      ≡ l.fn.counts.entries + (sum_of (map text_size l.names)).entries;
  bytes : l.counts.bytes + (sum_of (map text_size (drop l.name-index l.names))).bytes
      ≡ l.fn.counts.bytes + (sum_of (map text_size l.names)).bytes;
}
