use Rattle.std.proofs.Common.{◌≡◌, ◌≤◌, length}
use Rattle.manifest_json.specs.Gather.{bundle_of, bundle_with}
use Rattle.manifest_json.proofs.gather.gather.Given as goal

abbrev pub invariant-loop-item : goal.invariant-loop-item
invariant-loop-item l = record {
  value : bundle_of l.fn.items ≡ bundle_with l.bundle l.item-iterator.rest.items;
  mesh_items : l.bundle.mesh_items ≤ length l.yielded;
  others : l.bundle.others ≤ length l.yielded;
}
