-- `pbm::rows::put_rows` meets its contract.
use Prim.Native.Nat.{◌≤◌}
use Rattle.pbm.proofs.Raster.{Rasters}
use Rattle.pbm.proofs.rows.put_rows.Given as goal

abbrev pub invariant-loop-y : goal.invariant-loop-y
invariant-loop-y l = Rasters l.sheet l.initial.out l.at l.width l.pitch l.out l.flags l.y × (l.y ≤ l.height)
