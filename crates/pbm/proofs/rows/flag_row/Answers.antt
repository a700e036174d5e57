-- `pbm::rows::flag_row` meets its contract.
use native.Mathlib.Omega.{arith}
use Rattle.pbm.proofs.Raster.{flag_is, puts_none, puts_one}
use Rattle.pbm.proofs.rows.flag_row.Goals as goal

pub loop-x-init : goal.loop-x-init
loop-x-init c = (puts_none _ _ _, omega arith)

pub loop-x-preserved : goal.loop-x-preserved
loop-x-preserved c =
    let l = c.loop-x in
    let a = c.args in
    (puts_one l.invariant.0 (omega arith) (flag_is _ a.from l.x _ c.flag.ensures), omega (arith, c.loop-x-test.true))
