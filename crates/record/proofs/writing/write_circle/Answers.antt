-- `record::writing::write_circle` meets its contract.
use mathlib.Core.List.{◌++◌}
use Rattle.record.specs.Layout.{bytes_of}
use Rattle.record.specs.Inner.{head_bytes, cell_bytes}
use Rattle.record.proofs.Puts.{then}
use Rattle.record.proofs.Records.{circle_bytes, circle_size}
use Rattle.record.proofs.Written.{writes}
use Rattle.record.proofs.writing.write_circle.Goals as goal

pub returns : goal.returns
returns c =
    let a = c.args in
    let s = a.buffer.now in
    writes _ _ _ s 11 (circle_size a.centre a.r) c.in_ok-after.ensures.writable.0 _ c.in_ok-after.ensures.tells _ _
    (circle_bytes a.ink a.centre a.r)
    (then s (head_bytes 9 2 a.ink ++ cell_bytes a.centre) (bytes_of 2 a.r) a.filled
    (then s (head_bytes 9 2 a.ink) (cell_bytes a.centre) a.filled c.put_head.ensures c.put_cell.ensures)
    c.put_word.ensures)
