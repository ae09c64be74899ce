-- The text is that of the value written, which is nested little and holds no float, so it is read back.
use Rattle.std.proofs.Common.{◌≡◌, ◌≤◌, Some, string_bytes, subst, sym, ◌∙◌, ap, arith}
use Rattle.std.proofs.lemmas.Str.{is_utf8-from_IsUtf8}
use Rattle.std.specs.Str.{is_utf8}
use Rattle.serde_json.specs.Data.{Data, depth}
use Rattle.serde_json.specs.View.{view}
use Rattle.serde_json.specs.Written.{has_float, compact_text}
use Rattle.envoy_types.specs.ListenerForms.{listener_written}
use Rattle.mesh_cli.specs.Text.{listener_text}
use Rattle.mesh_cli.proofs.Enforced.{enforced}
use Rattle.mesh_cli.proofs.text.listener_text.Goals as goal

pub returns-clause-text : goal.returns-clause-text
unfolding listener_text
returns-clause-text c =
    c.in_ok-text.ensures.text (ap has_float c.in_ok-value.ensures ∙ c.in_ok-listener.ensures.no_float)
    ∙ ap compact_text (c.in_ok-value.ensures ∙ ap listener_written c.in_ok-listener.ensures.shape)

pub returns-clause-enforces : goal.returns-clause-enforces
returns-clause-enforces c =
    let P : Data → Type 0 = λ d. depth d ≤ 127 in
    let nested : depth (listener_written c.in_ok-listener.listener) ≤ 127 = omega (arith, c.in_ok-listener.ensures.shallow) in
    enforced c.written_spells.ensures.back c.written_spells.ensures.one c.args.workload.now c.in_ok-listener.listener
    (string_bytes c.in_ok-text.text) c.in_ok-listener.ensures.printable c.in_ok-listener.ensures.verdicts
    (ap is_utf8 (sym c.as_str-bytes.ensures.value) ∙ is_utf8-from_IsUtf8 _ c.as_str-bytes.utf8)
    (c.in_ok-text.ensures.reads_back (subst P (sym c.in_ok-value.ensures) nested)
    ∙ ap (λ d. Some d) c.in_ok-value.ensures)
