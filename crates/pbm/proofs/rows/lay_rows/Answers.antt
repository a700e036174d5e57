-- `pbm::rows::lay_rows` meets its contract.
use native.Mathlib.Omega.{arith}
use Rattle.pbm.proofs.Raster.{lays_none, lays_one}
use Rattle.pbm.proofs.rows.lay_rows.Goals as goal

pub loop-y-init : goal.loop-y-init
loop-y-init c = (lays_none _ _ _ _ _, omega arith)

pub loop-y-preserved : goal.loop-y-preserved
loop-y-preserved c =
    let l = c.loop-y in
    let z = c.requires.0 in
    (lays_one _ c.row_bytes-count.result z.disjoint z.broad l.invariant.0 c.row_bytes-count.ensures.0 c.lay_row.ensures, omega (arith, c.loop-y-test.true))
