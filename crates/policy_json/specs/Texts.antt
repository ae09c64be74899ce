-- Texts with bounds of length, tokens, and names that are kept in lower case (RFC 9110, section 5.1: names of fields).
use Rattle.std.specs.Prelude.{ℕ, List}
use Rattle.serde_json.specs.Data.{Data}
use Rattle.mesh_doc.specs.Faults.{Check}
use Rattle.mesh_doc.specs.Kinds.{text_in}
use Rattle.mesh_doc.specs.Tested.{tested}
use Rattle.mesh_doc.specs.declared.reason.Reason.TheVariants as reason
use Rattle.mesh_policy.specs.Values.{is_bounded, is_name, is_short, lowered}
use Rattle.mesh_text.specs.Token.{is_token}

-- a text of 1 to 1,024 bytes
abbrev pub short_text_faults : Check
short_text_faults = tested is_short reason.BadValue

-- a text of at most 1,024 bytes
abbrev pub bounded_text_faults : Check
bounded_text_faults = tested is_bounded reason.BadValue

-- a token (section 5.6.2)
abbrev pub token_faults : Check
token_faults = tested is_token reason.BadName

-- the name of a header field: a token of at most 1,024 bytes, kept in lower case
abbrev pub lower_name_faults : Check
lower_name_faults = tested is_name reason.BadName

-- the name in lower case
unfoldable pub lower_name_in : Data → List ℕ
lower_name_in d = lowered (text_in d)
