-- `pistonwool::cells::pw_line` meets its contract.
use Rattle.sheet.proofs.Draws.{draws_as}
use Rattle.sheet.specs.Sheet.{cell}
use Rattle.line.specs.Draw.{line_drawing}
use Rattle.pistonwool.specs.Told.{shape_of}
use Rattle.pistonwool.proofs.Forms.{line_tells}
use Rattle.pistonwool.proofs.Told.{cell_back, draws_small, draws_count}
use Rattle.pistonwool.proofs.cells.pw_line.Goals as goal

pub tell_counted-requires : goal.tell_counted-requires
tell_counted-requires c =
    let a = c.args in
    draws_small (line_drawing (shape_of a.width a.height a.pitch) a.ink _ _) _ _ _ c.draw_line-drawn.ensures (line_tells _ _ _ _)

pub returns : goal.returns
returns c =
    let a = c.args in
    let f = c.ranges in
    let from = cell_back a.x0 a.y0 f.x0 f.y0 in
    let to = cell_back a.x1 a.y1 f.x1 f.y1 in
    let k = shape_of a.width a.height a.pitch in
    let drawing = line_drawing k a.ink (cell a.x0 a.y0) (cell a.x1 a.y1) in
    let all_clauses = draws_count drawing _ _ _
    (draws_as (line_drawing k a.ink _ _) _ drawing _ _ (λ i. line_drawing k a.ink (from i) (to i)) c.draw_line-drawn.ensures)
    (line_tells _ _ _ _) _ _ _ _ _ (c.tell_counted.ensures.number, c.tell_counted.ensures.cells) c.tell_counted.ensures.rectangle in
    record { draws_into = all_clauses.0; keeps = all_clauses.1 }
