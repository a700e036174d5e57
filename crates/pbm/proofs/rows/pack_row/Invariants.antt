-- `pbm::rows::pack_row` meets its contract.
use Prim.Native.Nat.{ℕ, ◌*◌, ◌≤◌}
use Rattle.pbm.specs.Inner.{packed_at}
use Rattle.pbm.proofs.Raster.{Puts}
use Rattle.pbm.proofs.rows.pack_row.Given as goal

abbrev pub invariant-loop-j : goal.invariant-loop-j
invariant-loop-j l = Puts l.initial.out l.at (λ (i : ℕ). packed_at l.flags (i * 8)) l.out l.j × (l.j ≤ l.count)
