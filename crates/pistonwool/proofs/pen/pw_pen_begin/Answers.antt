-- `pistonwool::pen::pw_pen_begin` meets its contract.
use mathlib.Core.Path.{◌≡◌, ap, ap₂, ◌∙◌}
use Rattle.std.specs.Prelude.{Ok, Err}
use Rattle.sheet.specs.Reply.{Answer, told}
use Rattle.sheet.specs.Sheet.{cell}
use Rattle.line.specs.Pen.{pen_answer, begin_answer}
use Rattle.pistonwool.proofs.Pens.{begun_pen}
use Rattle.pistonwool.proofs.Told.{cell_back}
use Rattle.pistonwool.proofs.pen.pw_pen_begin.Goals as goal

pub returns-in-Ok : goal.returns-in-Ok
returns-in-Ok c =
    let a = c.args in
    let f = c.ranges in
    let e : told pen_answer (Ok c.in-Ok.begun) ≡ begin_answer (cell a.x0 a.y0) (cell a.x1 a.y1) = c.in-Ok.ensures ∙ ap₂ begin_answer (cell_back a.x0 a.y0 f.x0 f.y0) (cell_back a.x1 a.y1 f.x1 f.y1) in
    record { number = ap (λ (o : Answer). o.number) e; pen = begun_pen _ _ a.pen.now (Ok c.in-Ok.begun) e }

pub returns-in-Err : goal.returns-in-Err
returns-in-Err c =
    let a = c.args in
    let f = c.ranges in
    let e : told pen_answer (Err c.in-Err.refusal) ≡ begin_answer (cell a.x0 a.y0) (cell a.x1 a.y1) = c.in-Err.ensures ∙ ap₂ begin_answer (cell_back a.x0 a.y0 f.x0 f.y0) (cell_back a.x1 a.y1 f.x1 f.y1) in
    record { number = c.number.ensures ∙ ap (λ (o : Answer). o.number) e; pen = begun_pen _ _ a.pen.now (Err c.in-Err.refusal) e }
