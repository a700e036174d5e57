-- `pistonwool::writing::pw_write_cubic` meets its contract.
use Rattle.sheet.specs.declared.Figure.TheVariants.{Cubic}
use Rattle.pistonwool.proofs.Forms.{write_tells}
use Rattle.pistonwool.proofs.Told.{cell_back, writes_count}
use Rattle.pistonwool.proofs.writing.pw_write_cubic.Goals as goal

pub returns : goal.returns
returns c =
    let a = c.args in
    let f = c.ranges in
    let p0 = cell_back a.x0 a.y0 f.x0 f.y0 in
    let p1 = cell_back a.x1 a.y1 f.x1 f.y1 in
    let p2 = cell_back a.x2 a.y2 f.x2 f.y2 in
    let p3 = cell_back a.x3 a.y3 f.x3 f.y3 in
    let all_clauses = writes_count _ _ _ _ _ _ _ _ _ (λ i. Cubic (p0 i) (p1 i) (p2 i) (p3 i) a.s)
    c.write_cubic-written.ensures (write_tells _ _ _) (c.tell_bytes.ensures.number, c.tell_bytes.ensures.bytes) in
    record { writes = all_clauses.0; keeps = all_clauses.1 }
