use Rattle.std.proofs.Common.{◌≡◌, length, true, false, Some, None, nat_lt, ap, subst, ◌∙◌, arith}
use Rattle.std.proofs.lemmas.Bool.Decides.{nat_tests}
use Rattle.mesh_policy.specs.SelectFault as fault
use Rattle.mesh_select.specs.Chosen.{Chosen}
use Rattle.mesh_select.proofs.Found.{number-reason}
use Rattle.mesh_select.proofs.Reasons.{listed-is}
use Rattle.mesh_select.proofs.selection.Selection.judge_number.Goals as goal

pub returns-then-len-gt-MOST_PORTS : goal.returns-then-len-gt-MOST_PORTS
returns-then-len-gt-MOST_PORTS c =
    let s = c.self.inside in
    let over : nat_lt 16 (length s.listed.items) ≡ true = grind (arith, nat_tests) in
    let number : length s.listed.items ≡ c.len-then-len-gt-MOST_PORTS.result = omega arith in
    subst (λ (x : Chosen). fault.number_fault x.bundle x.pod ≡ Some (fault.too_many_ports c.len-then-len-gt-MOST_PORTS.result))
    c.self.view_is
    (number-reason s.bundle.now s.pod s.listed.items true (c.self.invariant.listed ∙ listed-is s.bundle.now s.pod) over
    ∙ ap (λ n. Some (fault.too_many_ports n)) number)

pub returns : goal.returns
returns c =
    let s = c.self.inside in
    let over : nat_lt 16 (length s.listed.items) ≡ false = grind (arith, nat_tests) in
    subst (λ (x : Chosen). fault.number_fault x.bundle x.pod ≡ None) c.self.view_is
    (number-reason s.bundle.now s.pod s.listed.items false (c.self.invariant.listed ∙ listed-is s.bundle.now s.pod) over)
