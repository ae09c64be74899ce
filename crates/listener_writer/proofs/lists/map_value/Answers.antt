-- One more item is put in, until none is left.
use Rattle.std.proofs.Common.{◌∙◌, ap}
use Rattle.serde_json.specs.Data.{object}
use Rattle.serde_json.proofs.Views.{view-Object}
use Rattle.envoy_types.specs.WrittenFields.{map_written}
use Rattle.listener_writer.proofs.NamedOnto.{put-last, none-left}
use Rattle.listener_writer.proofs.lists.map_value.Goals as goal

pub loop-last-preserved : goal.loop-last-preserved
loop-last-preserved g c =
    put-last g.W.Named.name_of g.W.Spelled.written _ _ _ _ _ _ _
    c.in_ok-put.ensures.ok c.name.ensures c.in_ok-value.ensures c.in-Some.ensures.cases.0 ∙ c.loop-last.invariant

pub returns : goal.returns
unfolding map_written
returns g c = view-Object c.loop-last.members
    ∙ ap object (none-left g.W.Named.name_of g.W.Spelled.written _ _ c.in_default.ensures.cases ∙ c.loop-last.invariant)
