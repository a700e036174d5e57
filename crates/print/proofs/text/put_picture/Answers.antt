-- `print::text::put_picture` meets its contract.
use Prim.Native.Nat.{◌*◌}
use native.Mathlib.Omega.{arith}
use Rattle.print.specs.Text.{line}
use Rattle.print.proofs.Lines.{line_long, picture_ends}
use Rattle.print.proofs.Writing.{turns_begin, turns_next}
use Rattle.print.proofs.text.put_picture.Goals as goal

pub loop-y-init : goal.loop-y-init
loop-y-init c =
    let a = c.args in
    turns_begin a.out.now 0 8 17 (line a.sheet.now) (line_long a.sheet.now)

pub loop-y-preserved : goal.loop-y-preserved
loop-y-preserved c =
    let a = c.args in
    turns_next a.out.now 0 8 17 (line a.sheet.now) c.loop-y.out c.loop-y.y c.loop-y.invariant (omega arith) (c.loop-y.y * 17) (omega arith) _
    c.put_line.ensures

pub returns : goal.returns
returns c =
    let a = c.args in
    picture_ends a.out.now a.sheet.now c.loop-y.out c.loop-y.y c.loop-y.invariant (omega arith)
