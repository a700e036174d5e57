-- `tally::row::count_few` meets its contract.
use mathlib.Core.Path.{◌≡◌}
use Rattle.tally.specs.Inner.{inked}
use Rattle.tally.proofs.row.count_few.Given as goal

abbrev pub invariant-loop-i : goal.invariant-loop-i
invariant-loop-i l = l.n ≡ inked l.sheet l.at l.i
