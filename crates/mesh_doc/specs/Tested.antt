-- Texts that pass a test.
use Rattle.std.specs.Prelude.{ℕ, Bool, List}
use Rattle.mesh_doc.specs.Faults.{Check, ◌▸◌, demands}
use Rattle.mesh_doc.specs.Kinds.{text_faults, text_in}
use Rattle.mesh_doc.specs.declared.reason.Reason.{Reason}

-- a text, and then the test of it
unfoldable pub tested : (List ℕ → Bool) → Reason → Check
tested passes reason = text_faults ▸ demands (λ d. passes (text_in d)) reason
