-- `record::writing::write_curve` meets its contract.
use mathlib.Core.List.{◌++◌}
use Rattle.record.specs.Layout.{bytes_of}
use Rattle.record.specs.Inner.{head_bytes, cell_bytes}
use Rattle.record.proofs.Puts.{then}
use Rattle.record.proofs.Records.{curve_bytes, curve_size}
use Rattle.record.proofs.Written.{writes}
use Rattle.record.proofs.writing.write_curve.Goals as goal

pub returns : goal.returns
returns c =
    let a = c.args in
    let s = a.buffer.now in
    let cells = cell_bytes a.p0 ++ cell_bytes a.p1 ++ cell_bytes a.p2 in
    writes _ _ _ s 18 (curve_size a.p0 a.p1 a.p2 a.s) c.in_ok-after.ensures.writable.0 _ c.in_ok-after.ensures.tells _ _
    (curve_bytes a.ink a.p0 a.p1 a.p2 a.s)
    (then s (head_bytes 16 4 a.ink ++ cells) (bytes_of 1 a.s) a.filled
    (then s (head_bytes 16 4 a.ink) cells a.filled c.put_head.ensures c.put_three.ensures)
    c.put_byte.ensures)
