use Rattle.std.proofs.Common.{◌≡◌, ◌≤◌, drop}
use Rattle.std.specs.List.{list_all}
use Rattle.mesh_text.specs.Number.{is_digit, spelled_after}
use Rattle.mesh_text.proofs.number.decimal.Given as goal

abbrev pub invariant-loop-digit : goal.invariant-loop-digit
invariant-loop-digit l = record {
  small : l.number ≤ 65535;
  digits : list_all is_digit l.digits ≡ list_all is_digit (drop l.digit-index l.digits);
  spelled : spelled_after 0 l.digits ≡ spelled_after l.number (drop l.digit-index l.digits);
}
