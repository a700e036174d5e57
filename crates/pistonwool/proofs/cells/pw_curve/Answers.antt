-- `pistonwool::cells::pw_curve` meets its contract.
use mathlib.Core.List.{[], ◌∷◌}
use Rattle.sheet.proofs.Draws.{draws_as}
use Rattle.sheet.specs.Sheet.{cell}
use Rattle.curve.specs.Draw.{curve_drawing}
use Rattle.pistonwool.specs.Told.{shape_of}
use Rattle.pistonwool.proofs.Forms.{curve_tells}
use Rattle.pistonwool.proofs.Told.{cell_back, draws_number}
use Rattle.pistonwool.proofs.cells.pw_curve.Goals as goal

pub returns : goal.returns
returns c =
    let a = c.args in
    let f = c.ranges in
    let p0 = cell_back a.x0 a.y0 f.x0 f.y0 in
    let p1 = cell_back a.x1 a.y1 f.x1 f.y1 in
    let p2 = cell_back a.x2 a.y2 f.x2 f.y2 in
    let k = shape_of a.width a.height a.pitch in
    let drawing = curve_drawing k a.ink (cell a.x0 a.y0 ∷ cell a.x1 a.y1 ∷ cell a.x2 a.y2 ∷ []) a.s in
    draws_number drawing _ _ _
    (draws_as (curve_drawing k a.ink _ a.s) _ drawing _ _ (λ i. curve_drawing k a.ink (p0 i ∷ p1 i ∷ p2 i ∷ []) a.s) c.draw_curve-drawn.ensures)
    _ _ _ (curve_tells _ _ _ _) c.tell.ensures.number c.tell.ensures.rectangle
