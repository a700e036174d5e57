-- `record::writing::write_ellipse` meets its contract.
use mathlib.Core.List.{◌++◌}
use Rattle.record.specs.Layout.{bytes_of}
use Rattle.record.specs.Inner.{head_bytes, cell_bytes}
use Rattle.record.proofs.Puts.{then}
use Rattle.record.proofs.Records.{ellipse_bytes, ellipse_size}
use Rattle.record.proofs.Written.{writes}
use Rattle.record.proofs.writing.write_ellipse.Goals as goal

pub returns : goal.returns
returns c =
    let a = c.args in
    let s = a.buffer.now in
    writes _ _ _ s 13 (ellipse_size a.centre a.a a.b) c.in_ok-after.ensures.writable.0 _ c.in_ok-after.ensures.tells _ _
    (ellipse_bytes a.ink a.centre a.a a.b)
    (then s (head_bytes 11 3 a.ink ++ cell_bytes a.centre ++ bytes_of 2 a.a) (bytes_of 2 a.b) a.filled
    (then s (head_bytes 11 3 a.ink ++ cell_bytes a.centre) (bytes_of 2 a.a) a.filled
    (then s (head_bytes 11 3 a.ink) (cell_bytes a.centre) a.filled c.put_head.ensures c.put_cell.ensures)
    c.put_word.ensures)
    c.put_word-2.ensures)
