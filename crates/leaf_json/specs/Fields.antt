-- What contracts see of an object that is being written.
use Rattle.serde_json.specs.Data.{Members}
use Rattle.serde_json.specs.View.{members_view}
use Rattle.leaf_json.specs.declared.fields.Fields.{Fields}

-- its members so far
abbrev pub members_of : Fields → Members
members_of f = members_view f.members.entries
