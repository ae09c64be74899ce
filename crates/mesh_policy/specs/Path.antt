-- The parts of a request target (RFC 3986, sections 3.3 to 3.5: `?` begins the query, and `#` the fragment).
use Rattle.std.specs.Prelude.{ℕ, ◌==◌, ◌||◌, List}
use Rattle.std.specs.List.{before_first}
use Rattle.mesh_text.specs.Bytes.{hash, question}

-- what stands before the first '#'
abbrev pub before_fragment : List ℕ → List ℕ
before_fragment target = before_first (λ c. c == hash) target

-- the path, which ends at the first '?' or '#': what path values of policies and matchers of paths compare
abbrev pub path_of : List ℕ → List ℕ
path_of target = before_first (λ c. (c == question) || (c == hash)) target
