-- `ring::halves::past_furthest` meets its contract.
use Rattle.ring.proofs.Seen.{far_all, far_found}
use Rattle.ring.proofs.Fronts.{end_most}
use native.Mathlib.Omega.{arith}
use mathlib.Core.Path.{refl, ap, ◌∙◌}
use Prim.Native.Nat.{ℕ, ◌+◌, min}
use Rattle.ring.proofs.halves.past_furthest.Goals as goal

pub returns-then-least-eq0 : goal.returns-then-least-eq0
returns-then-least-eq0 c =
    let a = c.args in
    let p = c.requires in
    far_all a.ring p.0 a.from a.to a.to p.1 p.2 c.if-least-eq0.true refl

pub overflow_add-row_end : goal.overflow_add-row_end
overflow_add-row_end c =
    let g = c.args.ring in
    omega (arith, c.row_end.ensures, end_most g.b g.a g.least c.halved-front.result, c.halved-front.ensures.high, c.ranges.to)

pub returns : goal.returns
returns c =
    let a = c.args in
    let p = c.requires in
    far_found a.ring p.0 a.from a.to _ p.1 p.2 _ (omega (arith, c.if-least-eq0.false)) c.halved-front.ensures
    (c.min.ensures ∙ ap (λ (n : ℕ). min a.to (n + 1)) c.row_end.ensures)
