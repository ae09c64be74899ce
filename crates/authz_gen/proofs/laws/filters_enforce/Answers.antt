use Rattle.std.proofs.Common.{[]}
use Rattle.authz_gen.proofs.Decided.{decides}
use Rattle.authz_gen.proofs.Printable.{filter-fits, small-part}
use Rattle.authz_gen.proofs.laws.filters_enforce.Goals as goal

pub returns-clause-decide : goal.returns-clause-decide
returns-clause-decide c = decides

pub returns-clause-printable : goal.returns-clause-printable
returns-clause-printable c = λ protocol action policies h small. filter-fits protocol action policies h (small-part policies [] small)
