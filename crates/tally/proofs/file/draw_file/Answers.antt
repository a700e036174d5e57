-- `tally::file::draw_file` meets its contract.
use mathlib.Core.Path.{refl}
use Rattle.drawing.specs.File.{file_form, file_drawing}
use Rattle.tally.proofs.Tests.{file_err}
use Rattle.tally.proofs.Beside.{form_refused, form_ready, form_draws, form_counts, file_form_lem}
use Rattle.tally.proofs.file.draw_file.Goals as goal

pub returns-in_err-check-clause-draws : goal.returns-in_err-check-clause-draws
returns-in_err-check-clause-draws c =
    let a = c.args in
    (form_refused file_form (file_drawing a.shape a.file.now) _ refl a.sheet.now a.rows.now (λ b. refl) _ c.in_err-check.ensures _ (file_err _ _ c.from_residual.ensures.1)).0

pub returns-in_err-drawn-clause-draws : goal.returns-in_err-drawn-clause-draws
returns-in_err-drawn-clause-draws c =
    let a = c.args in
    rw (file_err _ _ c.from_residual-in_err-drawn.ensures.1)
    (form_draws file_form (file_drawing a.shape a.file.now) _ refl a.sheet.now a.rows.now c.in_ok-check.ensures _ _ c.in_err-drawn.ensures (file_form_lem _ _ _))

pub count_rows-requires : goal.count_rows-requires
count_rows-requires c =
    let a = c.args in
    let r = form_ready file_form (file_drawing a.shape a.file.now) _ refl a.sheet.now a.rows.now c.in_ok-check.ensures _ _ c.in_ok-drawn.ensures in
    record { beside = r.0; to_le_height = r.1 }

pub returns-clause-draws : goal.returns-clause-draws
returns-clause-draws c =
    let a = c.args in
    form_draws file_form (file_drawing a.shape a.file.now) _ refl a.sheet.now a.rows.now c.in_ok-check.ensures _ _ c.in_ok-drawn.ensures (file_form_lem _ _ _)

pub returns-clause-rows_after : goal.returns-clause-rows_after
returns-clause-rows_after c =
    let a = c.args in
    form_counts file_form (file_drawing a.shape a.file.now) _ refl a.sheet.now a.rows.now c.in_ok-check.ensures _ _ c.in_ok-drawn.ensures _ c.count_rows.ensures
