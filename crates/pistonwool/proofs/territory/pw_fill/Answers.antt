-- `pistonwool::territory::pw_fill` meets its contract.
use Rattle.pistonwool.proofs.Forms.{fill_tells}
use Rattle.pistonwool.proofs.Told.{cell_back, fills_small, fills_count}
use Rattle.pistonwool.proofs.territory.pw_fill.Goals as goal

pub tell_cells-requires : goal.tell_cells-requires
tell_cells-requires c =
    fills_small c.fill-filled.ensures.fills (fill_tells _ _ _ _ _)

pub returns : goal.returns
returns c =
    let a = c.args in
    let f = c.ranges in
    let all_clauses = fills_count c.fill-filled.ensures.fills (fill_tells _ _ _ _ _) _ _ _ _ (cell_back a.x a.y f.x f.y) c.fill-filled.ensures.spares (c.tell_cells.ensures.number, c.tell_cells.ensures.cells) in
    record { fills = all_clauses.0; keeps = all_clauses.1.0; spares = all_clauses.1.1 }
