-- `drawing::metres::draw_metres` meets its contract.
use Rattle.std.proofs.Common.{◌≡◌, sym, ap, ◌∙◌, length, Result}
use Rattle.sheet.specs.Reply.{refuse, drawn_answer}
use Rattle.sheet.specs.Drawing.{if_sheet}
use Rattle.sheet.specs.declared.Figure.{Figure}
use Rattle.sheet.specs.declared.refusal.Refusal.{Refusal}
use Rattle.sheet.proofs.Draws.{refuses}
use Rattle.sheet.proofs.Lent.{if_sheet_lem, is_sheet, sheet_refused, told_err}
use Rattle.survey.specs.Metres.{in_cells}
use Rattle.drawing.specs.Metres.{cells_drawing, metres_drawing}
use Rattle.drawing.proofs.InMetres.{cells_begin}
use Rattle.drawing.proofs.metres.draw_metres.Goals as goal

pub returns-in_err-check : goal.returns-in_err-check
returns-in_err-check c =
    let a = c.args in
    sheet_refused (metres_drawing a.shape a.ink a.survey a.figure) a.shape _ _ _ _ (cells_begin a.shape a.ink (in_cells a.survey a.figure) _)
    c.in_err-check.ensures c.from_residual.ensures.1

pub returns-in_err-figure : goal.returns-in_err-figure
returns-in_err-figure c =
    let a = c.args in
    let n = length a.sheet.now in
    let r = c.in_err-figure.field-0.0 in
    let is : (metres_drawing a.shape a.ink a.survey a.figure).answer n ≡ if_sheet a.shape n (refuse r) =
    ap (λ (i : Result Figure Refusal). (cells_drawing a.shape a.ink i).answer n) (sym c.in_err-figure.ensures) in
    rw (told_err drawn_answer c.from_residual-in_err-figure.result r c.from_residual-in_err-figure.ensures.1)
    (refuses (metres_drawing a.shape a.ink a.survey a.figure) _ r (is ∙ if_sheet_lem a.shape n (is_sheet _ _ c.in_ok-check.ensures) _))
