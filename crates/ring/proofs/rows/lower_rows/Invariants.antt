-- `ring::rows::lower_rows` meets its contract: before each turn the rows before `row` are inked, and the front above it is known.
use Rattle.ring.proofs.Rowed.{Inking}
use Prim.Native.Nat.{◌+◌, ◌-◌, ◌*◌}
use Rattle.ring.proofs.rows.lower_rows.Given as goal

abbrev pub invariant-loop-row : goal.invariant-loop-row
invariant-loop-row l =
    Inking l.shape l.ink l.ring l.from l.to (2 * (l.row + 65536 - l.middle) - 1) l.initial.sheet l.sheet l.inner l.row
