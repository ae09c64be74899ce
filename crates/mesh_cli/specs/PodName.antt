-- The name of a Pod, as commands and refusals write it.
use Rattle.std.specs.Prelude.{ℕ, ◌==◌, Bool, ◌&&◌, List, ◌++◌, length, Option, Some, None, codes, nat_lt, if◌then◌else◌}
use Rattle.std.specs.List.{position_or_len, before_first, after_first}
use Rattle.mesh_text.specs.Bytes.{slash}
use Rattle.mesh_text.specs.Dns.{is_label, is_subdomain}

pub record PodName : Type 0 where
  pub namespace : List ℕ
  pub name : List ℕ

abbrev pub is_slash : ℕ → Bool
is_slash c = c == slash

-- `NAMESPACE/NAME`: a DNS label, a slash and a DNS subdomain, neither of which has a slash of its own
abbrev pub pod_name_of : List ℕ → Option PodName
pod_name_of path =
    if nat_lt (position_or_len is_slash path) (length path) && is_label (before_first is_slash path) &&
    is_subdomain (after_first is_slash path)
    then Some (record { namespace = before_first is_slash path; name = after_first is_slash path })
    else None

abbrev pub pod_text : PodName → List ℕ
pod_text name = name.namespace ++ codes "/" ++ name.name
