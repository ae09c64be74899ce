-- What is seen, and the name at the key, stand behind the filters that are passed.
use Rattle.std.proofs.Common.{◌≡◌, take}
use Rattle.std.specs.Option.{option_copied}
use Rattle.envoy_types.specs.Run.{name_of}
use Rattle.envoy_types.specs.State.{seen_of}
use Rattle.envoy_eval.specs.Runs.{after, begin}
use Rattle.envoy_eval.proofs.names.name_before.Given as goal

abbrev pub invariant-loop-filter : goal.invariant-loop-filter
invariant-loop-filter g l = record {
  seen : (after (g.F.Filter.run l.case) (take l.filter-index l.filters) (begin l.case l.fn.start)).seen ≡ seen_of l.case l.state;
  name : option_copied l.name ≡ name_of l.key (after (g.F.Filter.run l.case) (take l.filter-index l.filters)
      (begin l.case l.fn.start)).names;
}
