-- `tally::list::count_rows` meets its contract.
use mathlib.Core.Path.{refl, ◌∙◌}
use native.Mathlib.Omega.{arith}
use Rattle.tally.proofs.Rows.{lists_none, lists_one, counted_end}
use Rattle.tally.proofs.list.count_rows.Goals as goal

pub loop-y-init : goal.loop-y-init
loop-y-init c = (lists_none _ _ _ _ _, omega arith)

pub loop-y-preserved : goal.loop-y-preserved
loop-y-preserved c = (lists_one c.loop-y.invariant.0 (omega arith) c.count_row.ensures, omega (arith, c.loop-y-test.true))

pub returns : goal.returns
returns c =
    let l = c.loop-y in
    let a = c.args in
    l.invariant.0.is a.shape refl refl ∙ counted_end a.shape _ _ _ _ _ (omega arith) (omega arith) l.invariant.1
