-- `line::draw::draw_line` meets its contract.
use Rattle.line.proofs.Answers.{line_lifted}
use Rattle.line.proofs.draw.draw_line.Goals as goal

pub returns : goal.returns
returns c =
    let a = c.args in
    line_lifted a.shape a.ink a.from a.to _ _ _ _ _ c.lift_cell.ensures c.lift_cell-2.ensures c.draw_between.ensures
