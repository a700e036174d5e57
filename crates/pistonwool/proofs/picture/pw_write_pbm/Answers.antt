-- `pistonwool::picture::pw_write_pbm` meets its contract.
use Rattle.pistonwool.proofs.Pictured.{picture_count}
use Rattle.pistonwool.proofs.picture.pw_write_pbm.Goals as goal

pub returns : goal.returns
returns c =
    let all_clauses = picture_count _ _ _ _ _ _ _ _ c.write-written.ensures (c.tell_bytes.ensures.number, c.tell_bytes.ensures.bytes) in
    record { writes = all_clauses.0; keeps = all_clauses.1 }
