use Rattle.std.proofs.Common.{◌≡◌, length}
use Rattle.std.specs.Str.{IsUtf8}
use Rattle.mesh_policy.specs.Template as form
use Rattle.mesh_policy.proofs.template.any_is_last.Given as goal

abbrev pub invariant-segments : goal.invariant-segments
invariant-segments l = record {
  is_text : IsUtf8 l.rest;
  value : form.any_is_last l.one l.any (form.segments_of l.s) ≡ form.any_is_last l.one l.any (form.segments_of l.rest);
}

abbrev pub decreases-segments : goal.decreases-segments
decreases-segments l = length l.rest
