-- `tally::list::is_right` meets its contract.
use Rattle.tally.proofs.Rows.{Holds}
use Rattle.tally.proofs.list.is_right.Given as goal

abbrev pub invariant-loop-y : goal.invariant-loop-y
invariant-loop-y l = Holds l.sheet l.rows l.width l.pitch l.y
