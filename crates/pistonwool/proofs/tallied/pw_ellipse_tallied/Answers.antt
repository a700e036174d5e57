-- `pistonwool::tallied::pw_ellipse_tallied` meets its contract.
use Rattle.sheet.specs.Sheet.{cell}
use Rattle.sheet.specs.Drawing.{Drawing}
use Rattle.sheet.specs.declared.Cell.{Cell}
use Rattle.sheet.proofs.Draws.{draws_as}
use Rattle.ring.specs.Draw.{ellipse_drawing}
use Rattle.tally.specs.Tally.{beside, plain}
use Rattle.pistonwool.specs.Told.{shape_of}
use Rattle.pistonwool.proofs.Forms.{ellipse_tells}
use Rattle.pistonwool.proofs.Listed.{tallied_number}
use Rattle.pistonwool.proofs.Told.{cell_back}
use Rattle.pistonwool.proofs.tallied.pw_ellipse_tallied.Goals as goal

pub returns : goal.returns
returns c =
    let a = c.args in
    let f = c.ranges in
    let centre = cell_back a.x a.y f.x f.y in
    let k = shape_of a.width a.height a.pitch in
    let ringed : Cell → Drawing = λ p. beside plain a.sheet.now a.rows.now (ellipse_drawing k a.ink p a.a a.b) in
    let all_clauses = tallied_number (ellipse_drawing k a.ink (cell a.x a.y) a.a a.b) k _ _ _ _ _
    (draws_as (ringed _) _ (ringed (cell a.x a.y)) _ _ (λ i. ringed (centre i)) c.draw_figure-drawn.ensures.draws) c.draw_figure-drawn.ensures.rows_after
    (ellipse_tells _ _ _ _ _) _ _ _ c.tell.ensures.number c.tell.ensures.rectangle in
    record { draws_into = all_clauses.0; rows_after = all_clauses.1 }
