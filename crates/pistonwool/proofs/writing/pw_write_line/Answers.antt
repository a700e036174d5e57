-- `pistonwool::writing::pw_write_line` meets its contract.
use Rattle.sheet.specs.declared.Figure.TheVariants.{Line}
use Rattle.pistonwool.proofs.Forms.{write_tells}
use Rattle.pistonwool.proofs.Told.{cell_back, writes_count}
use Rattle.pistonwool.proofs.writing.pw_write_line.Goals as goal

pub returns : goal.returns
returns c =
    let a = c.args in
    let f = c.ranges in
    let from = cell_back a.x0 a.y0 f.x0 f.y0 in
    let to = cell_back a.x1 a.y1 f.x1 f.y1 in
    let all_clauses = writes_count _ _ _ _ _ _ _ _ _ (λ i. Line (from i) (to i))
    c.write_line-written.ensures (write_tells _ _ _) (c.tell_bytes.ensures.number, c.tell_bytes.ensures.bytes) in
    record { writes = all_clauses.0; keeps = all_clauses.1 }
