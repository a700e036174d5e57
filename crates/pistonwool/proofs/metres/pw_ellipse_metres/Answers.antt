-- `pistonwool::metres::pw_ellipse_metres` meets its contract.
use Rattle.survey.specs.declared.Metres.TheVariants as metres
use Rattle.drawing.specs.Metres.{metres_drawing}
use Rattle.pistonwool.specs.Told.{shape_of, survey_of}
use Rattle.pistonwool.proofs.Forms.{ellipse_metres_tells}
use Rattle.pistonwool.proofs.Told.{draws_number}
use Rattle.pistonwool.proofs.metres.pw_ellipse_metres.Goals as goal

pub returns : goal.returns
returns c =
    let a = c.args in
    draws_number (metres_drawing (shape_of a.width a.height a.pitch) a.ink (survey_of a.east a.north a.size) (metres.Ellipse a.x a.y a.a a.b)) _ _ _ c.draw_metres-drawn.ensures _ _ _
    (ellipse_metres_tells (shape_of a.width a.height a.pitch) a.ink _ (survey_of a.east a.north a.size) a.x a.y a.a a.b) c.tell.ensures.number c.tell.ensures.rectangle
