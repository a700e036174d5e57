-- `sheet::mark` meets its contract.
use mathlib.Core.Path.{refl, sym, ap, ◌∙◌}
use mathlib.Core.List.{[]}
use Rattle.sheet.specs.Sheet.{is_cell, paint}
use Rattle.sheet.specs.Repaint.{box_of}
use Rattle.sheet.specs.Reply.{done}
use Rattle.sheet.specs.Drawing.{mark_answer, mark_drawing}
use Rattle.sheet.specs.declared.Cell.{Cell}
use Rattle.sheet.specs.declared.refusal.Refusal.TheVariants.{Coordinate}
use Rattle.sheet.proofs.Boxes.{box_only}
use Rattle.sheet.proofs.Draws.{refuses, draws}
use Rattle.sheet.proofs.Lent.{if_sheet_lem, is_sheet, sheet_refused}
use Rattle.sheet.proofs.Limits.{fits_sheet, lifted_cell}
use Rattle.sheet.proofs.Marks.{inked_paints, alone_box}
use Rattle.sheet.proofs.mark.Goals as goal

pub returns-in_err-check : goal.returns-in_err-check
unfolding mark_answer
returns-in_err-check c =
    let a = c.args in
    sheet_refused (mark_drawing a.shape a.ink a.cell) _ _ _ _ _ refl c.in_err-check.ensures c.from_residual.ensures.1

pub returns-then-not-in_limits : goal.returns-then-not-in_limits
unfolding mark_answer
returns-then-not-in_limits c =
    let a = c.args in
    let outside = sym c.if-not-in_limits.ensures in
    refuses (mark_drawing a.shape a.ink a.cell) _ Coordinate
    (simp (if_sheet_lem _ _ (is_sheet _ _ c.in_ok-check.ensures), outside))

pub returns : goal.returns
unfolding mark_answer
returns c =
    let a = c.args in
    let inside = sym c.if-not-in_limits.ensures in
    let fitted = is_sheet _ _ c.in_ok-check.ensures in
    let at = (lifted_cell a.cell _ inside c.lift_cell-spot.ensures).stands in
    let y = fits_sheet a.shape a.sheet.now fitted in
    draws (mark_drawing a.shape a.ink a.cell) _ (done []) _ _ refl (simp (if_sheet_lem _ _ fitted, inside))
    (c.ink_at.ensures
    ∙ inked_paints a.shape a.ink _ a.sheet.now y.disjoint
    ∙ ap (λ (d : Cell). paint a.shape a.ink (is_cell d) a.sheet.now) at)
    (alone_box a.shape _ _ _ y.wide y.high c.none.ensures c.join_at.ensures
    ∙ ap (λ (d : Cell). box_of a.shape (is_cell d)) at
    ∙ sym (box_only a.shape a.ink (is_cell a.cell)))
