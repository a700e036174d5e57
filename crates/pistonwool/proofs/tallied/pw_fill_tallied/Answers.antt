-- `pistonwool::tallied::pw_fill_tallied` meets its contract.
use Rattle.pistonwool.proofs.Forms.{fill_tells}
use Rattle.pistonwool.proofs.Listed.{beside_tells, by_number}
use Rattle.pistonwool.proofs.Told.{cell_back, fills_small, fills_count}
use Rattle.pistonwool.proofs.tallied.pw_fill_tallied.Goals as goal

pub tell_cells-requires : goal.tell_cells-requires
tell_cells-requires c =
    fills_small c.fill-filled.ensures.fills_as (beside_tells _ _ _ _ _ (fill_tells _ _ _ _ _))

pub returns : goal.returns
returns c =
    let a = c.args in
    let f = c.ranges in
    let q = fills_count c.fill-filled.ensures.fills_as (beside_tells _ _ _ _ _ (fill_tells _ _ _ _ _)) _ _ _ _ (cell_back a.x a.y f.x f.y) c.fill-filled.ensures.spares (c.tell_cells.ensures.number, c.tell_cells.ensures.cells) in
    record { fills_as = q.0; keeps = q.1.0; spares = q.1.1; rows_after = by_number _ _ _ _ _ _ c.fill-filled.ensures.rows_after c.tell_cells.ensures.number }
