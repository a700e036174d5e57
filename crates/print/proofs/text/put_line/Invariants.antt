-- `print::text::put_line` meets its contract.
use Prim.Native.Nat.{◌*◌}
use Rattle.print.specs.Text.{character_at}
use Rattle.print.proofs.Writing.{Turns}
use Rattle.print.proofs.text.put_line.Given as goal

abbrev pub invariant-loop-x : goal.invariant-loop-x
invariant-loop-x l = Turns l.initial.out (l.y * 17) 16 1 (character_at l.sheet l.y) l.out l.x
