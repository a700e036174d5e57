-- `pistonwool::tallied::pw_line_metres_tallied` meets its contract.
use Rattle.survey.specs.declared.Metres.TheVariants as metres
use Rattle.drawing.specs.Metres.{metres_drawing}
use Rattle.pistonwool.specs.Told.{shape_of, survey_of}
use Rattle.pistonwool.proofs.Forms.{line_metres_tells}
use Rattle.pistonwool.proofs.Listed.{tallied_small, tallied_count}
use Rattle.pistonwool.proofs.tallied.pw_line_metres_tallied.Goals as goal

pub tell_counted-requires : goal.tell_counted-requires
tell_counted-requires c =
    let a = c.args in
    let k = shape_of a.width a.height a.pitch in
    let s = survey_of a.east a.north a.size in
    tallied_small (metres_drawing k a.ink s (metres.Line a.x0 a.y0 a.x1 a.y1)) k _ _ _ _ _ c.draw_metres-drawn.ensures.draws c.draw_metres-drawn.ensures.rows_after (line_metres_tells k a.ink _ s a.x0 a.y0 a.x1 a.y1)

pub returns : goal.returns
returns c =
    let a = c.args in
    let k = shape_of a.width a.height a.pitch in
    let s = survey_of a.east a.north a.size in
    let all_clauses = tallied_count (metres_drawing k a.ink s (metres.Line a.x0 a.y0 a.x1 a.y1)) k _ _ _ _ _ c.draw_metres-drawn.ensures.draws c.draw_metres-drawn.ensures.rows_after (line_metres_tells k a.ink _ s a.x0 a.y0 a.x1 a.y1)
    _ _ _ _ _ (c.tell_counted.ensures.number, c.tell_counted.ensures.cells) c.tell_counted.ensures.rectangle in
    record { draws_into = all_clauses.0; keeps = all_clauses.1.0; rows_after = all_clauses.1.1 }
