-- `pbm::rows::make_table` meets its contract.
use Prim.Native.Nat.{◌≤◌}
use Rattle.pbm.proofs.Bits.{Making}
use Rattle.pbm.proofs.rows.make_table.Given as goal

abbrev pub invariant-loop-byte : goal.invariant-loop-byte
invariant-loop-byte l = Making l.table l.byte × (1 ≤ l.byte) × (l.byte ≤ 256)
