-- `ring::rows::front_at` meets its contract.
use Rattle.ring.proofs.Fronts.{front_beyond}
use native.Mathlib.Omega.{arith}
use mathlib.Core.Path.{◌≡◌, sym}
use Prim.Native.Nat.{◌+◌, ◌-◌}
use Rattle.ring.proofs.rows.front_at.Goals as goal

pub returns-then-not-is_outside : goal.returns-then-not-is_outside
returns-then-not-is_outside c =
    let g = c.args.ring in
    let e : g.past - 1 + 1 ≡ g.past = omega (arith, c.requires.0.2) in
    rw e at (front_beyond g.a g.b c.args.v g.least (g.past - 1) (omega (arith, c.requires.0.2))
    (sym c.if-not-is_outside.ensures))
