use Rattle.std.proofs.Common.{◌≡◌, ◌+◌, drop, map}
use Rattle.mesh_policy.specs.Sizes.{sum_of}
use Rattle.mesh_select.proofs.sizes.count_all.Given as goal

abbrev pub invariant-loop-item : goal.invariant-loop-item
invariant-loop-item g l = record {
  values : l.counts.values + (sum_of (map g.T.Measured.size (drop l.item-index l.items))).values
      ≡ l.fn.counts.values + (sum_of (map g.T.Measured.size l.items)).values;
  entries : l.counts.entries + (sum_of (map g.T.Measured.size (drop l.item-index l.items))).entries
      ≡ l.fn.counts.entries + (sum_of (map g.T.Measured.size l.items)).entries;
  bytes : l.counts.bytes + (sum_of (map g.T.Measured.size (drop l.item-index l.items))).bytes
      ≡ l.fn.counts.bytes + (sum_of (map g.T.Measured.size l.items)).bytes;
}
