-- `pistonwool::tallied::pw_cubic_tallied` meets its contract.
use mathlib.Core.List.{List, [], ◌∷◌}
use Rattle.sheet.specs.Sheet.{cell}
use Rattle.sheet.specs.Drawing.{Drawing}
use Rattle.sheet.specs.declared.Cell.{Cell}
use Rattle.sheet.proofs.Draws.{draws_as}
use Rattle.curve.specs.Draw.{curve_drawing}
use Rattle.tally.specs.Tally.{beside, plain}
use Rattle.pistonwool.specs.Told.{shape_of}
use Rattle.pistonwool.proofs.Forms.{curve_tells}
use Rattle.pistonwool.proofs.Listed.{tallied_number}
use Rattle.pistonwool.proofs.Told.{cell_back}
use Rattle.pistonwool.proofs.tallied.pw_cubic_tallied.Goals as goal

pub returns : goal.returns
returns c =
    let a = c.args in
    let f = c.ranges in
    let p0 = cell_back a.x0 a.y0 f.x0 f.y0 in
    let p1 = cell_back a.x1 a.y1 f.x1 f.y1 in
    let p2 = cell_back a.x2 a.y2 f.x2 f.y2 in
    let p3 = cell_back a.x3 a.y3 f.x3 f.y3 in
    let k = shape_of a.width a.height a.pitch in
    let curved : List Cell → Drawing = λ ps. beside plain a.sheet.now a.rows.now (curve_drawing k a.ink ps a.s) in
    let points = cell a.x0 a.y0 ∷ cell a.x1 a.y1 ∷ cell a.x2 a.y2 ∷ cell a.x3 a.y3 ∷ [] in
    let all_clauses = tallied_number (curve_drawing k a.ink points a.s) k _ _ _ _ _
    (draws_as (curved _) _ (curved points) _ _ (λ i. curved (p0 i ∷ p1 i ∷ p2 i ∷ p3 i ∷ [])) c.draw_figure-drawn.ensures.draws) c.draw_figure-drawn.ensures.rows_after
    (curve_tells _ _ _ _) _ _ _ c.tell.ensures.number c.tell.ensures.rectangle in
    record { draws_into = all_clauses.0; rows_after = all_clauses.1 }
