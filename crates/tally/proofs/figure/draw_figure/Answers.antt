-- `tally::figure::draw_figure` meets its contract.
use mathlib.Core.Path.{refl}
use Rattle.sheet.specs.Reply.{drawn_answer}
use Rattle.sheet.proofs.Lent.{told_err}
use Rattle.drawing.specs.Figure.{figure_drawing}
use Rattle.tally.specs.Tally.{plain}
use Rattle.tally.proofs.Beside.{form_refused, form_ready, form_draws, form_counts, figure_shape}
use Rattle.tally.proofs.figure.draw_figure.Goals as goal

pub returns-in_err-check-clause-draws : goal.returns-in_err-check-clause-draws
returns-in_err-check-clause-draws c =
    let a = c.args in
    (form_refused plain (figure_drawing a.shape a.ink a.figure) _ (figure_shape a.shape a.ink a.figure) a.sheet.now a.rows.now (λ b. refl) _ c.in_err-check.ensures _ (told_err drawn_answer _ _ c.from_residual.ensures.1)).0

pub returns-in_err-drawn-clause-draws : goal.returns-in_err-drawn-clause-draws
returns-in_err-drawn-clause-draws c =
    let a = c.args in
    rw (told_err drawn_answer _ _ c.from_residual-in_err-drawn.ensures.1)
    (form_draws plain (figure_drawing a.shape a.ink a.figure) _ (figure_shape a.shape a.ink a.figure) a.sheet.now a.rows.now c.in_ok-check.ensures _ _ c.in_err-drawn.ensures refl)

pub count_rows-requires : goal.count_rows-requires
count_rows-requires c =
    let a = c.args in
    let r = form_ready plain (figure_drawing a.shape a.ink a.figure) _ (figure_shape a.shape a.ink a.figure) a.sheet.now a.rows.now c.in_ok-check.ensures _ _ c.in_ok-drawn.ensures in
    record { beside = r.0; to_le_height = r.1 }

pub returns-clause-draws : goal.returns-clause-draws
returns-clause-draws c =
    let a = c.args in
    form_draws plain (figure_drawing a.shape a.ink a.figure) _ (figure_shape a.shape a.ink a.figure) a.sheet.now a.rows.now c.in_ok-check.ensures _ _ c.in_ok-drawn.ensures refl

pub returns-clause-rows_after : goal.returns-clause-rows_after
returns-clause-rows_after c =
    let a = c.args in
    form_counts plain (figure_drawing a.shape a.ink a.figure) _ (figure_shape a.shape a.ink a.figure) a.sheet.now a.rows.now c.in_ok-check.ensures _ _ c.in_ok-drawn.ensures _ c.count_rows.ensures
