-- `pbm::rows::flag_row` meets its contract.
use Prim.Native.Nat.{◌≤◌}
use Rattle.pbm.specs.Inner.{flag_at}
use Rattle.pbm.proofs.Raster.{Puts}
use Rattle.pbm.proofs.rows.flag_row.Given as goal

abbrev pub invariant-loop-x : goal.invariant-loop-x
invariant-loop-x l = Puts l.initial.flags 0 (flag_at l.sheet l.from) l.flags l.x × (l.x ≤ l.width)
