-- `pistonwool::writing::pw_write_ellipse` meets its contract.
use Rattle.sheet.specs.declared.Figure.TheVariants.{Ellipse}
use Rattle.pistonwool.proofs.Forms.{write_tells}
use Rattle.pistonwool.proofs.Told.{cell_back, writes_count}
use Rattle.pistonwool.proofs.writing.pw_write_ellipse.Goals as goal

pub returns : goal.returns
returns c =
    let a = c.args in
    let f = c.ranges in
    let centre = cell_back a.x a.y f.x f.y in
    let all_clauses = writes_count _ _ _ _ _ _ _ _ _ (λ i. Ellipse (centre i) a.a a.b)
    c.write_ellipse-written.ensures (write_tells _ _ _) (c.tell_bytes.ensures.number, c.tell_bytes.ensures.bytes) in
    record { writes = all_clauses.0; keeps = all_clauses.1 }
