-- `pistonwool::tallied::pw_line_tallied` meets its contract.
use Rattle.sheet.specs.Sheet.{cell}
use Rattle.sheet.specs.Drawing.{Drawing}
use Rattle.sheet.specs.declared.Cell.{Cell}
use Rattle.sheet.proofs.Draws.{draws_as}
use Rattle.line.specs.Draw.{line_drawing}
use Rattle.tally.specs.Tally.{beside, plain}
use Rattle.pistonwool.specs.Told.{shape_of}
use Rattle.pistonwool.proofs.Forms.{line_tells}
use Rattle.pistonwool.proofs.Listed.{tallied_small, tallied_count}
use Rattle.pistonwool.proofs.Told.{cell_back}
use Rattle.pistonwool.proofs.tallied.pw_line_tallied.Goals as goal

pub tell_counted-requires : goal.tell_counted-requires
tell_counted-requires c =
    let a = c.args in
    tallied_small (line_drawing (shape_of a.width a.height a.pitch) a.ink _ _) _ _ _ _ _ _ c.draw_figure-drawn.ensures.draws c.draw_figure-drawn.ensures.rows_after (line_tells _ _ _ _)

pub returns : goal.returns
returns c =
    let a = c.args in
    let f = c.ranges in
    let p0 = cell_back a.x0 a.y0 f.x0 f.y0 in
    let p1 = cell_back a.x1 a.y1 f.x1 f.y1 in
    let k = shape_of a.width a.height a.pitch in
    let lined : Cell → Cell → Drawing = λ p q. beside plain a.sheet.now a.rows.now (line_drawing k a.ink p q) in
    let all_clauses = tallied_count (line_drawing k a.ink (cell a.x0 a.y0) (cell a.x1 a.y1)) k _ _ _ _ _
    (draws_as (lined _ _) _ (lined (cell a.x0 a.y0) (cell a.x1 a.y1)) _ _ (λ i. lined (p0 i) (p1 i)) c.draw_figure-drawn.ensures.draws) c.draw_figure-drawn.ensures.rows_after
    (line_tells _ _ _ _) _ _ _ _ _ (c.tell_counted.ensures.number, c.tell_counted.ensures.cells) c.tell_counted.ensures.rectangle in
    record { draws_into = all_clauses.0; keeps = all_clauses.1.0; rows_after = all_clauses.1.1 }
