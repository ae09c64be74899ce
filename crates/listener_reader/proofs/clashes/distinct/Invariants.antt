-- The first chain that clashes is the first of those that are left, and the kinds of those before it are there.
use Rattle.std.proofs.Common.{◌≡◌, [], take, drop}
use Rattle.mesh_doc.specs.Faults.{first}
use Rattle.envoy_types.specs.ChainForms.{duplicates}
use Rattle.listener_reader.specs.Targets.{Kind, has, one_is_for}
use Rattle.listener_reader.proofs.clashes.distinct.Given as goal

abbrev pub invariant-loop-i : goal.invariant-loop-i
invariant-loop-i l = record {
  faults : first (duplicates [] 0 l.chains l.at) ≡ first (duplicates (take l.i l.chains) l.i (drop l.i l.chains) l.at);
  kinds : (kind : Kind) → has l.kinds kind ≡ one_is_for (take l.i l.chains) kind;
}
