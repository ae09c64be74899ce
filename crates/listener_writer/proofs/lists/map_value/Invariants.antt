-- The items left, put onto the members, give the object of all.
use Rattle.std.proofs.Common.{◌≡◌, length}
use Rattle.serde_json.specs.Data.{no_members}
use Rattle.serde_json.specs.View.{members_view}
use Rattle.envoy_types.specs.WrittenFields.{named_onto}
use Rattle.listener_writer.proofs.lists.map_value.Given as goal

abbrev pub invariant-loop-last : goal.invariant-loop-last
invariant-loop-last g l = named_onto g.W.Named.name_of g.W.Spelled.written (members_view l.members.entries) l.rest
    ≡ named_onto g.W.Named.name_of g.W.Spelled.written no_members l.items

abbrev pub decreases-loop-last : goal.decreases-loop-last
decreases-loop-last g l = length l.rest
