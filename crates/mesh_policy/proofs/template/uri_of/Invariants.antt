use Rattle.std.proofs.Common.{◌≡◌, ◌++◌, length, string_bytes}
use Rattle.std.specs.Str.{IsUtf8}
use Rattle.mesh_policy.specs.Template as form
use Rattle.mesh_policy.proofs.template.uri_of.Given as goal

abbrev pub invariant-segments : goal.invariant-segments
invariant-segments l = record {
  is_text : IsUtf8 l.rest;
  value : form.uri_of l.s ≡ string_bytes l.uri ++ form.uri_of l.rest;
}

abbrev pub decreases-segments : goal.decreases-segments
decreases-segments l = length l.rest
