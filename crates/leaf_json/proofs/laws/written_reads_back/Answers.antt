-- By the lemmas on matchers, and on trees over leaves that keep the laws of the trait.
use Rattle.envoy_types.proofs.StringsBack.{string-back}
use Rattle.envoy_types.proofs.TreesBack.{tree-back}
use Rattle.leaf_json.proofs.laws.written_reads_back.Goals as goal

pub returns-clause-strings : goal.returns-clause-strings
returns-clause-strings g c m printable = let known = string-back m printable in (known.passes.clean, known.back)

pub returns-clause-trees : goal.returns-clause-trees
returns-clause-trees g c = tree-back g.L.Form.form g.met.L.Form.own_names g.met.L.Form.one_field g.met.L.Form.reads_back
