-- `tally::list::count_rows` meets its contract.
use Prim.Native.Nat.{◌≤◌, max}
use Rattle.tally.proofs.Rows.{Lists}
use Rattle.tally.proofs.list.count_rows.Given as goal

abbrev pub invariant-loop-y : goal.invariant-loop-y
invariant-loop-y l = Lists l.sheet l.initial.rows l.from l.width l.pitch l.rows l.y × (l.y ≤ max l.from l.to)
