-- `ring::front::fallen` meets its contract: every column that is passed is outside.
use Rattle.std.proofs.Common.{◌≡◌, ◌+◌, ◌-◌, arith, sym}
use Rattle.ring.proofs.Fronts.{front_beyond, front_join}
use Rattle.ring.proofs.front.fallen.Goals as goal

pub returns-then-not-is_outside : goal.returns-then-not-is_outside
returns-then-not-is_outside c =
    let x = c.loop-x.x in
    let e : x - 1 + 1 ≡ x = omega (arith, c.loop-x-test.true) in
    front_join (front_beyond _ _ _ c.args.least (x - 1) (omega (arith, c.loop-x-test.true)) (sym c.if-not-is_outside.ensures)) (rw (sym e) at c.loop-x.invariant.0)

pub returns : goal.returns
returns c =
    let e : c.loop-x.x ≡ c.args.least = omega (arith, c.loop-x-test.false, c.loop-x.invariant.1) in
    rw e at c.loop-x.invariant.0
