-- `pistonwool::tallied::pw_ellipse_metres_tallied` meets its contract.
use Rattle.survey.specs.declared.Metres.TheVariants as metres
use Rattle.drawing.specs.Metres.{metres_drawing}
use Rattle.pistonwool.specs.Told.{shape_of, survey_of}
use Rattle.pistonwool.proofs.Forms.{ellipse_metres_tells}
use Rattle.pistonwool.proofs.Listed.{tallied_number}
use Rattle.pistonwool.proofs.tallied.pw_ellipse_metres_tallied.Goals as goal

pub returns : goal.returns
returns c =
    let a = c.args in
    let k = shape_of a.width a.height a.pitch in
    let s = survey_of a.east a.north a.size in
    let all_clauses = tallied_number (metres_drawing k a.ink s (metres.Ellipse a.x a.y a.a a.b)) k _ _ _ _ _ c.draw_metres-drawn.ensures.draws c.draw_metres-drawn.ensures.rows_after
    (ellipse_metres_tells k a.ink _ s a.x a.y a.a a.b) _ _ _ c.tell.ensures.number c.tell.ensures.rectangle in
    record { draws_into = all_clauses.0; rows_after = all_clauses.1 }
