-- `record::writing::write_cubic` meets its contract.
use mathlib.Core.List.{◌++◌}
use Rattle.record.specs.Layout.{bytes_of}
use Rattle.record.specs.Inner.{head_bytes, cell_bytes}
use Rattle.record.proofs.Puts.{then}
use Rattle.record.proofs.Records.{cubic_bytes, cubic_size}
use Rattle.record.proofs.Written.{writes}
use Rattle.record.proofs.writing.write_cubic.Goals as goal

pub returns : goal.returns
returns c =
    let a = c.args in
    let s = a.buffer.now in
    let cells = cell_bytes a.p0 ++ cell_bytes a.p1 ++ cell_bytes a.p2 in
    writes _ _ _ s 22 (cubic_size a.p0 a.p1 a.p2 a.p3 a.s) c.in_ok-after.ensures.writable.0 _ c.in_ok-after.ensures.tells _ _
    (cubic_bytes a.ink a.p0 a.p1 a.p2 a.p3 a.s)
    (then s (head_bytes 20 5 a.ink ++ cells ++ cell_bytes a.p3) (bytes_of 1 a.s) a.filled
    (then s (head_bytes 20 5 a.ink ++ cells) (cell_bytes a.p3) a.filled
    (then s (head_bytes 20 5 a.ink) cells a.filled c.put_head.ensures c.put_three.ensures)
    c.put_cell.ensures)
    c.put_byte.ensures)
