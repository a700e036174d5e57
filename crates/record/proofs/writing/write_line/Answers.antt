-- `record::writing::write_line` meets its contract.
use mathlib.Core.List.{◌++◌}
use Rattle.record.specs.Inner.{head_bytes, cell_bytes}
use Rattle.record.proofs.Puts.{then}
use Rattle.record.proofs.Records.{line_bytes, line_size}
use Rattle.record.proofs.Written.{writes}
use Rattle.record.proofs.writing.write_line.Goals as goal

pub returns : goal.returns
returns c =
    let a = c.args in
    let s = a.buffer.now in
    writes _ _ _ s 13 (line_size a.from a.to) c.in_ok-after.ensures.writable.0 _ c.in_ok-after.ensures.tells _ _
    (line_bytes a.ink a.from a.to)
    (then s (head_bytes 11 1 a.ink ++ cell_bytes a.from) (cell_bytes a.to) a.filled
    (then s (head_bytes 11 1 a.ink) (cell_bytes a.from) a.filled c.put_head.ensures c.put_cell.ensures)
    c.put_cell-2.ensures)
