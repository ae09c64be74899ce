-- The small forms of a listener's JSON (Envoy v3 API reference, in the profile of docs/FORMATS.md): fixed texts, numbers in
-- a range, lists of some length, objects of alternatives. In all of them `null` is a value of another kind.
use Rattle.std.specs.Prelude.{ℕ, ◌+◌, ◌-◌, ◌==◌, Bool, true, ◌&&◌, nat_le, List, [], ◌∷◌, length, is_some}
use Rattle.std.specs.Prelude.{if◌then◌else◌}
use Rattle.std.specs.Option.{option_and_then}
use Rattle.std.specs.Str.{bytes_eq}
use Rattle.serde_json.specs.Data.{Data, null, Items, no_items, item}
use Rattle.serde_json.specs.Events.{items_len}
use Rattle.serde_json.specs.Find.{as_str, get}
use Rattle.mesh_doc.specs.Faults.{Check, Faults, joined, ◌⨾◌, ◌▸◌, demands}
use Rattle.mesh_doc.specs.Fields.{strict, required_written, required_written_in}
use Rattle.mesh_doc.specs.Kinds.{items_of, length_in, list_faults, number_faults, number_in, truth_faults, truth_in}
use Rattle.mesh_doc.specs.Lists.{each_in, list_of}
use Rattle.mesh_doc.specs.Places.{Steps, at_index}
use Rattle.mesh_doc.specs.Tested.{tested}
use Rattle.mesh_doc.specs.Turns.{each_in_turn, list_in_turn}
use Rattle.mesh_doc.specs.declared.reason.Reason.TheVariants as reason
use Rattle.envoy_types.specs.State.{holds_of}
use Rattle.envoy_types.specs.declared.keys.TheConstants.{NAME, TYPED_CONFIG, TYPE}

-- ---- limits of lists

-- entries of any list but that of the chains
abbrev pub most_entries : ℕ
most_entries = 8192

-- filter chains of a listener
abbrev pub most_chains : ℕ
most_chains = 2048

-- ---- single values

-- this text and no other
abbrev pub fixed_faults : List ℕ → Check
fixed_faults word = tested (λ t. bytes_eq t word) reason.BadForm

-- `true` and no other
unfoldable pub true_faults : Check
true_faults = truth_faults ▸ demands truth_in reason.BadForm

-- from the one to the other
abbrev pub is_within : ℕ → ℕ → ℕ → Bool
is_within least most n = nat_le least n && nat_le n most

-- a whole number in a range
unfoldable pub number_within_faults : ℕ → ℕ → Check
number_within_faults least most = number_faults ▸ demands (λ d. is_within least most (number_in d)) reason.BadForm

-- a port, or 0
abbrev pub any_port_faults : Check
any_port_faults = number_within_faults 0 65535

-- a port from 1 on
abbrev pub port_faults : Check
port_faults = number_within_faults 1 65535

-- ---- lists

-- a list within its limit
abbrev pub is_short_list : {A : Type 0} → List A → Bool
is_short_list xs = nat_le (length xs) most_entries

-- a list that is not over its limit
unfoldable pub short_list_faults : ℕ → Check
short_list_faults most = list_faults ▸ demands (λ d. nat_le (length_in d) most) reason.TooMany

-- a list of a length that fits, and of entries of the form
unfoldable pub list_that : (ℕ → Bool) → ℕ → Check → Check
list_that fits most f = short_list_faults most ▸ (demands (λ d. fits (length_in d)) reason.BadForm ⨾ list_of most f)

-- any number of entries
abbrev pub any_list : Check → Check
any_list f = list_of most_entries f

-- one entry at least
abbrev pub some_list : Check → Check
some_list f = list_that (nat_le 1) most_entries f

-- one entry
abbrev pub sole_list : Check → Check
sole_list f = list_that (λ n. n == 1) most_entries f

-- a list of a length that fits, whose entries are read with what the earlier ones left at hand
unfoldable pub list_in_turn_that : {S : Type 0} → (ℕ → Bool) → (S → Check) → (S → Data → S) → S → Check
list_in_turn_that fits f after seen =
    short_list_faults most_entries ▸ (demands (λ d. fits (length_in d)) reason.BadForm ⨾ list_in_turn most_entries f after seen)

-- the first entry, and `null` of an empty list
abbrev pub first_of : Items → Data
first_of no_items = null
first_of (item d ds) = d

-- what the one entry means
unfoldable pub sole_in : {A : Type 0} → (Data → A) → Data → A
sole_in value d = value (first_of (items_of d))

-- ---- lists whose last entry has a form of its own

-- the entries but the last
abbrev pub front_of : Items → Items
front_of no_items = no_items
front_of (item d no_items) = no_items
front_of (item d (item e ds)) = item d (front_of (item e ds))

-- the last entry
abbrev pub last_of : Items → Data
last_of no_items = null
last_of (item d no_items) = d
last_of (item d (item e ds)) = last_of (item e ds)

-- each entry passes the test
abbrev pub items_all : (Data → Bool) → Items → Bool
items_all test no_items = true
items_all test (item d ds) = test d && items_all test ds

-- each entry of the form, and no limit
abbrev pub each_faults : Check → Items → Steps → Faults
each_faults f ds at = each_in_turn {S = Unit {0}} (λ _. f) (λ seen _. seen) tt 0 ds at

-- entries of the first form, and then one of the second
unfoldable pub ending_with : Check → Check → Check
ending_with f g d at =
    joined (each_faults f (front_of (items_of d)) at) (g (last_of (items_of d)) (at_index (items_len (items_of d) - 1) at))

-- what the entries before the last mean
unfoldable pub front_in : {A : Type 0} → (Data → A) → Data → List A
front_in value d = each_in value (front_of (items_of d))

-- what the last entry means
unfoldable pub last_in : {A : Type 0} → (Data → A) → Data → A
last_in value d = value (last_of (items_of d))

-- ---- objects of alternatives

-- the field is there
abbrev pub is_written : List ℕ → Data → Bool
is_written name d = is_some (get name d)

-- how many of these fields are there
abbrev pub count_written : List (List ℕ) → Data → ℕ
count_written [] d = 0
count_written (name ∷ names) d = (if is_written name d then 1 else 0) + count_written names d

-- exactly one of these fields is there
unfoldable pub one_of : List (List ℕ) → Check
one_of names = demands (λ d. count_written names d == 1) reason.BadForm

-- a check that looks at the value itself for what it asks
abbrev pub given : (Data → Check) → Check
given f d at = f d d at

-- ---- configurations (Protocol Buffers, "JSON Mapping": `Any`)

-- a filter, a socket or a matcher by its name, with its configuration
unfoldable pub named_faults : List ℕ → Check → Check
named_faults name config =
    strict (NAME.now ∷ TYPED_CONFIG.now ∷ [])
    (required_written NAME.now (fixed_faults name)
    ⨾ required_written TYPED_CONFIG.now config)

-- what the configuration means
unfoldable pub config_in : {A : Type 0} → (Data → A) → Data → A
config_in value d = required_written_in TYPED_CONFIG.now value d

-- the type URL of a configuration, which stands in front of its fields
abbrev pub type_faults : List ℕ → Check
type_faults type = required_written TYPE.now (fixed_faults type)

-- a configuration without a field
unfoldable pub plain_config_faults : List ℕ → Check
plain_config_faults type = strict (TYPE.now ∷ []) (type_faults type)

-- an entry of a list of filters has the kind whose form has its name
unfoldable pub is_named : List ℕ → Data → Bool
is_named name d = holds_of (λ t. bytes_eq t name) (option_and_then as_str (get NAME.now d))
