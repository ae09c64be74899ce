-- What no two items of a document share.
use Rattle.std.specs.Prelude.{Bool, ◌&&◌}
use Rattle.std.specs.Str.{bytes_eq}
use denote.Enum.Bare.{sameb}
use Rattle.manifest_json.specs.contracts.key.Kind.{the_type}
use Rattle.manifest_json.specs.declared.key.Kind.{Kind}
use Rattle.manifest_json.specs.declared.key.ItemKey.{ItemKey}

-- `==` on kinds
abbrev pub same_kind : Kind → Kind → Bool
same_kind = sameb the_type

-- `==` on keys
abbrev pub same_key : ItemKey → ItemKey → Bool
same_key a b = same_kind a.kind b.kind && (bytes_eq a.namespace b.namespace && bytes_eq a.name b.name)
