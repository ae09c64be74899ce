-- Of the entries so far, the providers, and whether one is none.
use Rattle.std.proofs.Common.{◌≡◌, is_none}
use Rattle.std.specs.List.{filter_map, list_any}
use Rattle.listener_reader.proofs.requirements.any_of.Given as goal

abbrev pub invariant-loop-entry : goal.invariant-loop-entry
invariant-loop-entry l = record {
  names : l.names ≡ filter_map (λ entry. entry) l.yielded;
  missing : l.allow_missing ≡ list_any is_none l.yielded;
}
