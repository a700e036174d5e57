-- `ring::rows::upper_rows` meets its contract: before each turn the rows before `row` are inked, and the front above it is known.
use Rattle.ring.proofs.Rowed.{Inking}
use Prim.Native.Nat.{◌+◌, ◌-◌, ◌*◌}
use Rattle.ring.proofs.rows.upper_rows.Given as goal

abbrev pub invariant-loop-row : goal.invariant-loop-row
invariant-loop-row l =
    Inking l.shape l.ink l.ring l.from l.to (2 * (l.middle - l.row) + 1) l.initial.sheet l.sheet l.outer l.row
