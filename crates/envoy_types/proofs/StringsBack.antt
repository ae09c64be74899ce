-- A string matcher that is written is read back.
use Rattle.std.proofs.Common.{◌≡◌, ℕ, Bool, true, false, ◌||◌, List, None, refl}
use Rattle.mesh_doc.specs.Faults.{first}
use Rattle.mesh_doc.specs.Fields.{optional_written, optional_written_in, required_written_in}
use Rattle.mesh_doc.specs.Kinds.{object_faults, text_faults, text_in, truth_faults, truth_in}
use Rattle.mesh_doc.specs.Known.{is_known, unknown_faults}
use Rattle.mesh_doc.specs.Places.{Steps}
use Rattle.mesh_doc.specs.Tested.{tested}
use Rattle.envoy_types.proofs.PartsBack.{Back}
use Rattle.envoy_types.specs.SmallForms.{one_of}
use Rattle.envoy_types.specs.StringForms.{is_filled, may_be_empty, string_faults, string_in, string_is_printable, string_written}
use Rattle.envoy_types.specs.Strings.{matcher_with}
use Rattle.envoy_types.specs.declared.strings.MatchKind.{MatchKind}
use Rattle.envoy_types.specs.declared.strings.MatchKind.TheVariants.{Exact, Prefix, Suffix, Contains}
use Rattle.envoy_types.specs.declared.strings.StringMatcher.{StringMatcher}

-- ---- a matcher of each kind, with `ignore_case` and without

clean : (kind : MatchKind) (text : List ℕ) (fold : Bool) (at : Steps) → (may_be_empty kind || is_filled text) ≡ true
    → first (string_faults (string_written (matcher_with kind text fold)) at) ≡ None
unfolding string_faults string_written optional_written text_faults text_in truth_faults tested one_of unknown_faults object_faults is_known
clean Exact text true at h = refl
clean Exact text false at h = refl
clean Prefix text true at h = rw h refl
clean Prefix text false at h = rw h refl
clean Suffix text true at h = rw h refl
clean Suffix text false at h = rw h refl
clean Contains text true at h = rw h refl
clean Contains text false at h = rw h refl

back : (kind : MatchKind) (text : List ℕ) (fold : Bool)
    → string_in (string_written (matcher_with kind text fold)) ≡ matcher_with kind text fold
unfolding string_in string_written optional_written_in required_written_in text_in truth_in
back Exact text true = refl
back Exact text false = refl
back Prefix text true = refl
back Prefix text false = refl
back Suffix text true = refl
back Suffix text false = refl
back Contains text true = refl
back Contains text false = refl

pub string-back : (m : StringMatcher) → string_is_printable m ≡ true → Back string_faults string_in (string_written m) m
unfolding string_is_printable
string-back m h = record {
  passes = record { clean = λ at. clean m.kind m.text m.ignore_case at h };
  back = back m.kind m.text m.ignore_case;
}
