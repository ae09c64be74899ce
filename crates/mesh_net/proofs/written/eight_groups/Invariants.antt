use Rattle.std.proofs.Common.{◌≡◌, ◌≤◌, ◌++◌, string_bytes}
use Rattle.mesh_net.specs.declared.address.IpAddr.TheVariants.{V6}
use Rattle.mesh_net.specs.Written.{ip_text, lower_groups}
use Rattle.mesh_net.proofs.written.eight_groups.Given as goal

abbrev pub invariant-loop-left : goal.invariant-loop-left
invariant-loop-left l = record {
  within : l.left ≤ 7;
  so_far : string_bytes l.text ++ lower_groups l.number l.left ≡ ip_text (V6 l.number);
}

abbrev pub decreases-loop-left : goal.decreases-loop-left
decreases-loop-left l = l.left
