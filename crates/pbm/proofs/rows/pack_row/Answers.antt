-- `pbm::rows::pack_row` meets its contract.
use mathlib.Core.Path.{refl}
use native.Mathlib.Omega.{arith}
use Rattle.pbm.proofs.Raster.{puts_none, puts_one}
use Rattle.pbm.proofs.rows.pack_row.Goals as goal

pub loop-j-init : goal.loop-j-init
loop-j-init c = (puts_none _ _ _, omega arith)

pub loop-j-preserved : goal.loop-j-preserved
loop-j-preserved c =
    let l = c.loop-j in
    (puts_one l.invariant.0 refl c.pack.ensures, omega (arith, c.loop-j-test.true))
