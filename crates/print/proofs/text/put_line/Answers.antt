-- `print::text::put_line` meets its contract.
use Prim.Native.Nat.{◌+◌, ◌*◌}
use native.Mathlib.Omega.{arith}
use Rattle.print.specs.Text.{character_at}
use Rattle.print.proofs.Lines.{cell_long, cell_put, line_ends}
use Rattle.print.proofs.Writing.{turns_begin, turns_next}
use Rattle.print.proofs.text.put_line.Goals as goal

pub loop-x-init : goal.loop-x-init
loop-x-init c =
    let a = c.args in
    turns_begin a.out.now (a.y * 17) 16 1 (character_at a.sheet.now a.y) (cell_long a.sheet.now a.y)

pub loop-x-preserved : goal.loop-x-preserved
loop-x-preserved c =
    let a = c.args in
    turns_next a.out.now (a.y * 17) 16 1 (character_at a.sheet.now a.y) c.loop-x.out c.loop-x.x c.loop-x.invariant (omega arith)
    (a.y * 17 + c.loop-x.x)
    (omega arith)
    _
    (cell_put a.sheet.now c.loop-x.out a.y c.loop-x.x (a.y * 17 + c.loop-x.x) c.character.result c.character.ensures)

pub returns : goal.returns
returns c =
    let a = c.args in
    line_ends a.out.now (a.y * 17) a.sheet.now a.y c.loop-x.out c.loop-x.x c.loop-x.invariant (omega arith)
