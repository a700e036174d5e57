-- `line::pen::advance` meets its contract.
use Rattle.std.proofs.Common.{Some, None, refl, ap, ◌∙◌}
use Rattle.sheet.specs.Reply.{told_next}
use Rattle.line.specs.Pen.{cell_answer}
use Rattle.line.proofs.Pens.{asks}
use Rattle.line.proofs.pen.advance.Goals as goal

pub returns-in_err-cell : goal.returns-in_err-cell
returns-in_err-cell c =
    let p = asks c.args.pen.now None None c.args.pen.now c.in_err-cell.ensures refl refl in
    record { cell = ap (told_next cell_answer) c.from_residual.ensures ∙ p.0; pen = p.1 }

pub returns : goal.returns
returns c =
    let cell = c.in_ok-cell.cell in
    let moved = c.in_ok-cell.moved in
    let p = asks c.args.pen.now (Some (cell, moved)) (Some cell) moved c.in_ok-cell.ensures refl refl in
    record { cell = p.0; pen = p.1 }
