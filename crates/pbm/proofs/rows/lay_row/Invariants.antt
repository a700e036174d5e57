-- `pbm::rows::lay_row` meets its contract.
use Prim.Native.Nat.{◌*◌, ◌≤◌}
use Rattle.pbm.specs.Inner.{row_bit}
use Rattle.pbm.proofs.Raster.{Puts}
use Rattle.pbm.proofs.rows.lay_row.Given as goal

abbrev pub invariant-loop-j : goal.invariant-loop-j
invariant-loop-j l = Puts l.initial.sheet l.at (row_bit l.picture l.from) l.sheet (l.j * 8) × (l.j ≤ l.whole)
