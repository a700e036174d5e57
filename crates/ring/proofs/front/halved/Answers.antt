-- `ring::front::halved` meets its contract: what is below `low` is inside, and what is from `high` on is outside.
use Rattle.std.proofs.Common.{arith, sym}
use Rattle.ring.proofs.Fronts.{front_beyond}
use Rattle.ring.proofs.front.halved.Goals as goal

pub loop-low-preserved : goal.loop-low-preserved
loop-low-preserved c =
    let l = c.loop-low.invariant in
    (front_beyond _ _ _ _ _ (omega (arith, l.0.low)) (sym c.if-is_outside.ensures), l.1, omega (arith, c.loop-low-test.true))
