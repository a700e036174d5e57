-- `pistonwool::cells::pw_list` meets its contract.
use Rattle.pistonwool.proofs.Forms.{list_tells}
use Rattle.pistonwool.proofs.Told.{cell_back, lists_as, lists_small, lists_count}
use Rattle.pistonwool.proofs.cells.pw_list.Goals as goal

pub tell_cells-requires : goal.tell_cells-requires
tell_cells-requires c = lists_small _ _ _ _ _ _ _ c.list_line-listed.ensures (list_tells _ _ _ _)

pub returns : goal.returns
returns c =
    let a = c.args in
    let f = c.ranges in
    let from = cell_back a.x0 a.y0 f.x0 f.y0 in
    let to = cell_back a.x1 a.y1 f.x1 f.y1 in
    let all_clauses = lists_count _ _ _ _ _ _ _ _ _ _ (lists_as _ _ _ _ _ _ _ _ _ from to c.list_line-listed.ensures) (list_tells _ _ _ _) (c.tell_cells.ensures.number, c.tell_cells.ensures.cells) in
    record { lists_into = all_clauses.0; keeps = all_clauses.1 }
