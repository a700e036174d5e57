-- `pistonwool::cells::pw_ellipse` meets its contract.
use Rattle.sheet.proofs.Draws.{draws_as}
use Rattle.sheet.specs.Sheet.{cell}
use Rattle.ring.specs.Draw.{ellipse_drawing}
use Rattle.pistonwool.specs.Told.{shape_of}
use Rattle.pistonwool.proofs.Forms.{ellipse_tells}
use Rattle.pistonwool.proofs.Told.{cell_back, draws_number}
use Rattle.pistonwool.proofs.cells.pw_ellipse.Goals as goal

pub returns : goal.returns
returns c =
    let a = c.args in
    let centre = cell_back a.x a.y c.ranges.x c.ranges.y in
    let k = shape_of a.width a.height a.pitch in
    let drawing = ellipse_drawing k a.ink (cell a.x a.y) a.a a.b in
    draws_number drawing _ _ _
    (draws_as (ellipse_drawing k a.ink _ a.a a.b) _ drawing _ _ (λ i. ellipse_drawing k a.ink (centre i) a.a a.b) c.draw_ellipse-drawn.ensures)
    _ _ _ (ellipse_tells _ _ _ _ _) c.tell.ensures.number c.tell.ensures.rectangle
