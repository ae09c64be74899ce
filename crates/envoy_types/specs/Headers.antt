-- When a header matcher holds for a request (Envoy v3 API reference, `config.route.v3.HeaderMatcher`).
use Rattle.std.specs.Prelude.{ℕ, Bool, List, Option, Some, is_some, codes, if◌then◌else◌}
use Rattle.std.specs.Str.{bytes_eq}
use Rattle.mesh_policy.specs.Token.{value_of}
use Rattle.mesh_policy.specs.declared.request.Request.{Request}
use Rattle.envoy_types.specs.State.{holds_of}
use Rattle.envoy_types.specs.Strings.{string_holds}
use Rattle.envoy_types.specs.declared.headers.HeaderMatch.{HeaderMatch}
use Rattle.envoy_types.specs.declared.headers.HeaderTest.{HeaderTest}
use Rattle.envoy_types.specs.declared.headers.HeaderTest.TheVariants.{Present, Words}

-- What a name stands for: the method, the authority or the whole path with its query by their pseudo-headers (RFC 9113,
-- section 8.3.1), and else the first header of the name.
abbrev pub header_value : List ℕ → Request → Option (List ℕ)
header_value name request =
    if bytes_eq name (codes ":method") then Some request.method
    else (if bytes_eq name (codes ":authority") then request.authority
    else (if bytes_eq name (codes ":path") then Some request.path
    else value_of name request.headers))

-- the header is there; it is there and its value matches
abbrev pub test_holds : HeaderTest → Option (List ℕ) → Bool
test_holds Present value = is_some value
test_holds (Words m) value = holds_of (string_holds m) value

-- the matcher holds for the request
abbrev pub header_holds : HeaderMatch → Request → Bool
header_holds h request = test_holds h.test (header_value h.name request)
