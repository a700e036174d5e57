-- `tally::row::count_row` meets its contract.
use Prim.Native.Nat.{◌*◌}
use mathlib.Core.Path.{◌≡◌}
use Rattle.tally.specs.Inner.{inked}
use Rattle.tally.proofs.row.count_row.Given as goal

abbrev pub invariant-loop-block : goal.invariant-loop-block
invariant-loop-block l = l.n ≡ inked l.sheet l.at (128 * l.block)
