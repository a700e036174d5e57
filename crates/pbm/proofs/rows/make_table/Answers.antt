-- `pbm::rows::make_table` meets its contract.
use mathlib.Core.Path.{refl}
use native.Mathlib.Omega.{arith}
use Rattle.pbm.proofs.Bits.{making_first, making_next}
use Rattle.pbm.proofs.rows.make_table.Goals as goal

pub loop-byte-init : goal.loop-byte-init
loop-byte-init c = (making_first c.args.table.now c.requires, omega arith, omega arith)

pub loop-byte-preserved : goal.loop-byte-preserved
loop-byte-preserved c =
    let l = c.loop-byte in
    (making_next l.invariant.0 l.invariant.1 c.loop-byte-test.true refl, omega arith, omega (arith, c.loop-byte-test.true))
