-- `tally::list::is_right` meets its contract.
use mathlib.Core.Path.{◌∙◌, sym}
use native.Mathlib.Omega.{arith}
use Rattle.tally.proofs.Inked.{row_inked}
use Rattle.tally.proofs.Rows.{right_all, right_not}
use Rattle.tally.proofs.list.is_right.Goals as goal

pub returns-then-rows-y : goal.returns-then-rows-y
returns-then-rows-y c =
    let a = c.args in
    sym (right_not a.shape _ _ c.loop-y.y c.loop-y-test.true
    (λ e. c.if-rows-y.true (e ∙ sym (row_inked a.shape _ _) ∙ sym c.count_row.ensures)))

pub returns : goal.returns
returns c =
    let a = c.args in
    sym (right_all a.shape _ _ (λ y m. c.loop-y.invariant.at y (omega arith) ∙ row_inked a.shape _ y))
