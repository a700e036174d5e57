-- `print::text::put_picture` meets its contract.
use Rattle.print.specs.Text.{line}
use Rattle.print.proofs.Writing.{Turns}
use Rattle.print.proofs.text.put_picture.Given as goal

abbrev pub invariant-loop-y : goal.invariant-loop-y
invariant-loop-y l = Turns l.initial.out 0 8 17 (line l.sheet) l.out l.y
