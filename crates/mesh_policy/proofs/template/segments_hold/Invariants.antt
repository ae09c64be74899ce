use Rattle.std.proofs.Common.{◌≡◌, length}
use Rattle.std.specs.Str.{IsUtf8}
use Rattle.mesh_policy.specs.Template as form
use Rattle.mesh_policy.proofs.template.segments_hold.Given as goal

abbrev pub invariant-segments : goal.invariant-segments
invariant-segments l = record {
  segments_are_text : IsUtf8 l.segments;
  rest_is_text : IsUtf8 l.rest;
  value : form.template_holds l.uri l.path ≡ form.template_holds l.segments l.rest;
}

abbrev pub decreases-segments : goal.decreases-segments
decreases-segments l = length l.segments
