use Rattle.std.proofs.Common.{◌≡◌, take}
use Rattle.mesh_tree.proofs.+copy.Given as goal

abbrev pub invariant-copies::copy_all-loop-part : goal.invariant-copies::copy_all-loop-part
invariant-copies::copy_all-loop-part g l = l.copies ≡ take l.part-index l.parts
