-- What is left decides.
use Rattle.std.proofs.Common.{◌≡◌, drop}
use Rattle.serde_json.specs.View.{items_view}
use Rattle.envoy_types.specs.FilterForms.{is_http_filter}
use Rattle.envoy_types.specs.SmallForms.{items_all}
use Rattle.listener_reader.proofs.manager.all_http_filters.Given as goal

abbrev pub invariant-loop-v : goal.invariant-loop-v
invariant-loop-v l =
    items_all is_http_filter (items_view l.items) ≡ items_all is_http_filter (items_view (drop l.v-index l.items))
