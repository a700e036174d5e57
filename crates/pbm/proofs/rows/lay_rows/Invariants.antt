-- `pbm::rows::lay_rows` meets its contract.
use Prim.Native.Nat.{◌≤◌}
use Rattle.pbm.proofs.Raster.{Lays}
use Rattle.pbm.proofs.rows.lay_rows.Given as goal

abbrev pub invariant-loop-y : goal.invariant-loop-y
invariant-loop-y l = Lays l.picture l.initial.sheet l.from l.width l.pitch l.sheet l.y × (l.y ≤ l.height)
