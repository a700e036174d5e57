-- `drawing::file::draw_file` meets its contract.
use Rattle.sheet.proofs.Lent.{is_sheet}
use Rattle.drawing.proofs.Records.{no_sheet_file, file_refused, file_drawn}
use Rattle.drawing.proofs.file.draw_file.Goals as goal

pub returns-in_err-check : goal.returns-in_err-check
returns-in_err-check c =
    let a = c.args in
    no_sheet_file a.shape a.file.now a.sheet.now _ _ c.in_err-check.ensures c.from_residual.ensures.1

pub returns-in_err-count : goal.returns-in_err-count
returns-in_err-count c =
    let a = c.args in
    file_refused a.shape a.file.now a.sheet.now (is_sheet _ _ c.in_ok-check.ensures) _ _ c.in_err-count.ensures c.from_residual-in_err-count.ensures.1

pub draw_records-requires-clause-sheet_value : goal.draw_records-requires-clause-sheet_value
draw_records-requires-clause-sheet_value c = is_sheet _ _ c.in_ok-check.ensures

pub returns : goal.returns
returns c =
    let a = c.args in
    file_drawn a.shape a.file.now a.sheet.now (is_sheet _ _ c.in_ok-check.ensures) _ _ _ c.in_ok-count.ensures c.in_ok-rectangle.ensures.sheet_after c.in_ok-rectangle.ensures.value
