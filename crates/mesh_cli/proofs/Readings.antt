-- What bytes have a reading as JSON.
use Rattle.std.proofs.Common.{◌≡◌, ℕ, Bool, true, false, cond, List, Some, None, refl, ◌∙◌, ap}
use Rattle.std.specs.Str.{IsUtf8, is_utf8}
use Rattle.std.proofs.lemmas.Str.{is_utf8-from_IsUtf8, IsUtf8-from_is_utf8}
use Rattle.serde_json.specs.Data.{Data}
use Rattle.serde_json.specs.Read.{read}
use Rattle.mesh_cli.specs.Answer.{document_of}

pub document-read : (bytes : List ℕ) (document : Data) → IsUtf8 bytes → read bytes ≡ Some document → document_of bytes ≡ Some document
unfolding document_of
document-read bytes document utf8 reading = ap (λ (valid : Bool). cond valid (read bytes) None) (is_utf8-from_IsUtf8 bytes utf8) ∙ reading

pub document-none : (bytes : List ℕ) → (IsUtf8 bytes → read bytes ≡ None) → document_of bytes ≡ None
unfolding document_of
document-none bytes none = at (is_utf8 bytes) refl where
  at : (valid : Bool) → is_utf8 bytes ≡ valid → cond valid (read bytes) None ≡ None
  at true e = none (IsUtf8-from_is_utf8 bytes e)
  at false e = refl
