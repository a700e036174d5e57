-- `fill::scan` meets its contract.
use Prim.Native.Nat.{◌-◌, ◌*◌}
use mathlib.Core.Path.{◌≡◌, subst}
use mathlib.Core.Bool.{false}
use native.Mathlib.Omega.{arith}
use Rattle.fill.specs.Inner.{Ahead, spot}
use Rattle.fill.proofs.Walking.{scanning_more}
use Rattle.fill.proofs.scan.Goals as goal
use Rattle.fill.proofs.scan.Goals.{After-ahead}

-- what the search found, by its column
seen : (c : After-ahead) →
    let a = c.args in
    let l = c.loop-at in
    let y = a.strip.row in
    Ahead false a.boundary (spot a.shape l.at y) (spot a.shape a.strip.to y) l.sheet
    (spot a.shape (c.ahead.result - y * a.shape.pitch) y)
seen c =
    let a = c.args in
    let y = a.strip.row in
    let e : c.ahead.result ≡ spot a.shape (c.ahead.result - y * a.shape.pitch) y = omega (arith, c.ahead.ensures.order) in
    subst (Ahead false _ _ _ _) e c.ahead.ensures

pub loop-at-preserved : goal.loop-at-preserved
loop-at-preserved c =
    scanning_more c.loop-at.invariant (seen (goal.at.loop-at-preserved c).After-ahead) c.if-height-row.false (omega (arith, c.if-to-open.false)) c.take-taken.ensures
