-- `pistonwool::metres::pw_line_metres` meets its contract.
use Rattle.survey.specs.declared.Metres.TheVariants as metres
use Rattle.drawing.specs.Metres.{metres_drawing}
use Rattle.pistonwool.specs.Told.{shape_of, survey_of}
use Rattle.pistonwool.proofs.Forms.{line_metres_tells}
use Rattle.pistonwool.proofs.Told.{draws_small, draws_count}
use Rattle.pistonwool.proofs.metres.pw_line_metres.Goals as goal

pub tell_counted-requires : goal.tell_counted-requires
tell_counted-requires c =
    let a = c.args in
    draws_small (metres_drawing (shape_of a.width a.height a.pitch) a.ink (survey_of a.east a.north a.size) (metres.Line a.x0 a.y0 a.x1 a.y1)) _ _ _ c.draw_metres-drawn.ensures
    (line_metres_tells (shape_of a.width a.height a.pitch) a.ink _ (survey_of a.east a.north a.size) a.x0 a.y0 a.x1 a.y1)

pub returns : goal.returns
returns c =
    let a = c.args in
    let all_clauses = draws_count (metres_drawing (shape_of a.width a.height a.pitch) a.ink (survey_of a.east a.north a.size) (metres.Line a.x0 a.y0 a.x1 a.y1)) _ _ _ c.draw_metres-drawn.ensures
    (line_metres_tells (shape_of a.width a.height a.pitch) a.ink _ (survey_of a.east a.north a.size) a.x0 a.y0 a.x1 a.y1)
    _ _ _ _ _ (c.tell_counted.ensures.number, c.tell_counted.ensures.cells) c.tell_counted.ensures.rectangle in
    record { draws_into = all_clauses.0; keeps = all_clauses.1 }
