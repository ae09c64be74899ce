-- Lists of values that a reader of manifests may answer. What these words say of a value can be told without the document that
-- it came from: how its texts are written, how large its numbers are, how long its lists.
use Rattle.std.specs.Prelude.{◌≡◌, ℕ, ◌≤◌, Bool, false, ◌&&◌, All, AllPairs, IsTrue, List, length}
use Rattle.std.specs.Str.{bytes_eq}
use Rattle.mesh_policy.specs.declared.pod.Label.{Label}

-- a list of a manifest: at most 2,048 entries, each of which is accepted
pub record AcceptedList {A : Type 0} (Accepted : A → Type 0) (entries : List A) : Type 0 where
  pub few : length entries ≤ 2048
  pub each : All Accepted entries

-- the same for entries with a test
abbrev pub AcceptedValues : {A : Type 0} → (A → Bool) → List A → Type 0
AcceptedValues test = AcceptedList (λ entry. IsTrue (test entry))

-- no two entries are the same by this test
abbrev pub EachOnce : {A : Type 0} → (A → A → Bool) → List A → Type 0
EachOnce same = AllPairs (λ a b. same a b ≡ false)

-- two names, each in its namespace
abbrev pub same_names : (namespace name namespace' name' : List ℕ) → Bool
same_names namespace name namespace' name' = bytes_eq namespace namespace' && bytes_eq name name'

-- labels stand for an object of texts, so each key is there once (RFC 8259, section 4); no limit is set to them
abbrev pub same_key : Label → Label → Bool
same_key a b = bytes_eq a.key b.key

abbrev pub AcceptedLabels : List Label → Type 0
AcceptedLabels = EachOnce same_key
