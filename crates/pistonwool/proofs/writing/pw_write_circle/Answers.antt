-- `pistonwool::writing::pw_write_circle` meets its contract.
use Rattle.sheet.specs.declared.Figure.TheVariants.{Circle}
use Rattle.pistonwool.proofs.Forms.{write_tells}
use Rattle.pistonwool.proofs.Told.{cell_back, writes_count}
use Rattle.pistonwool.proofs.writing.pw_write_circle.Goals as goal

pub returns : goal.returns
returns c =
    let a = c.args in
    let f = c.ranges in
    let centre = cell_back a.x a.y f.x f.y in
    let all_clauses = writes_count _ _ _ _ _ _ _ _ _ (λ i. Circle (centre i) a.r)
    c.write_circle-written.ensures (write_tells _ _ _) (c.tell_bytes.ensures.number, c.tell_bytes.ensures.bytes) in
    record { writes = all_clauses.0; keeps = all_clauses.1 }
