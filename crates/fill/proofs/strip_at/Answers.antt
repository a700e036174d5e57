-- `fill::strip_at` meets its contract.
use Prim.Native.Nat.{◌-◌, ◌/◌}
use mathlib.Core.Path.{refl, ◌∙◌}
use native.Mathlib.Omega.{arith}
use Rattle.fill.specs.Inner.{above, below}
use Rattle.fill.proofs.strip_at.Goals as goal
use Rattle.fill.proofs.strip_at.Goals.{then-last-eq0, else-last-eq0}

pub returns : goal.returns
returns c =
    let turn = c.args.turn in
    elim c.if-last-eq0.branch [
      | then-last-eq0 w ↦ above ((turn - 1) / 2) (omega (arith, w.if-last-eq0.true, c.if-turn-eq0.false)) (w.result-is ∙ w.above.ensures) refl refl
      | else-last-eq0 w ↦ below ((turn - 1) / 2) (omega (arith, w.if-last-eq0.false, c.if-turn-eq0.false)) w.result-is refl refl
    ]
