-- `ring::ellipse_on` meets its contract.
use Rattle.ring.proofs.Rowed.{rows_then, rows_join, rows_are, no_column, no_row}
use Rattle.ring.specs.Inner.{Placed}
use Rattle.sheet.specs.Repaint.{join}
use native.Mathlib.Omega.{arith}
use mathlib.Core.Path.{◌≡◌, refl, sym, ap, ap₂, ◌∙◌}
use Prim.Native.Nat.{ℕ, ◌+◌, ◌-◌, ◌≤◌, ◌<◌, min}
use Rattle.ring.proofs.ellipse_on.Goals as goal
use Rattle.ring.proofs.ellipse_on.Goals.{After-min-middle, After-min-to, Else-to-from}

pub returns-then-a-ring : goal.returns-then-a-ring
returns-then-a-ring c =
    let a = c.args in
    let all_clauses = no_column a.shape a.ink a.centre a.a a.b _ c.placed-ring.ensures _ _ _ refl
    c.none.ensures c.if-a-ring.true in
    record { sheet_after = all_clauses.0; value = all_clauses.1 }

-- where the rows on the sheet end
to_is : (c : After-min-to) →
    let a = c.args in
    c.min-to.result ≡ min (c.placed-ring.result.y + a.b + 1 - 65536) a.shape.height
to_is c = c.min-to.ensures ∙ ap (λ (n : ℕ). min n c.args.shape.height) c.saturating_sub.ensures

pub returns-then-to-from : goal.returns-then-to-from
returns-then-to-from c =
    let a = c.args in
    let all_clauses = no_row a.shape a.ink a.centre a.a a.b _ c.placed-ring.ensures _ _ _ _ _
    c.saturating_sub-from.ensures (to_is (goal.at.returns-then-to-from c).After-min-to) refl c.none-then-to-from.ensures c.if-to-from.true in
    record { sheet_after = all_clauses.0; value = all_clauses.1 }

to_is_2 : (c : Else-to-from) →
    let a = c.args in
    c.min-to.result ≡ min (c.placed-ring.result.y + a.b + 1 - 65536) a.shape.height
to_is_2 c = c.min-to.ensures ∙ ap (λ (n : ℕ). min n c.args.shape.height) c.saturating_sub.ensures

-- how the ring's rows on the sheet lie to its middle
numbers : (c : Else-to-from) →
    let a = c.args in
    let g = c.placed-ring.result in
    let from = c.saturating_sub-from.result in
    let to = c.min-to.result in
    Placed a.shape g × (from < to) × (to ≤ a.shape.height) × (g.y ≤ from + 65536 + g.b) × (to + 65536 ≤ g.y + g.b + 1)
    × (from ≤ g.y - 65536)
numbers c =
    let N = c.placed-ring.ensures in
    let from = c.saturating_sub-from.ensures in
    let to = to_is_2 c in (
      N.lies (omega (arith, N.of_a, c.if-a-ring.false)),
      c.if-to-from.false,
      omega arith,
      omega (arith, N.of_b),
      omega (arith, N.of_b, c.if-to-from.false),
      omega arith,
    )

pub returns-then-ring-y : goal.returns-then-ring-y
returns-then-ring-y c =
    let a = c.args in
    let all_clauses = rows_are a.shape a.ink a.centre a.a a.b _ c.placed-ring.ensures _ _ _ _ _
    c.saturating_sub-from.ensures (to_is (goal.at.returns-then-ring-y c).After-min-to) c.rows_round.ensures.sheet_after c.rows_round.ensures.value in
    record { sheet_after = all_clauses.0; value = all_clauses.1 }

-- where the lower half begins
middle_is : (c : After-min-middle) →
    c.min-middle.result ≡ min (c.placed-ring.result.y - 65536) c.min-to.result
middle_is c =
    c.min-middle.ensures ∙ ap (λ (n : ℕ). min n c.min-to.result) c.saturating_sub-2.ensures

pub returns : goal.returns
returns c =
    let a = c.args in
    let g = c.placed-ring.result in
    let from = c.saturating_sub-from.result in
    let to = c.min-to.result in
    let middle = c.min-middle.result in
    let n = numbers (goal.at.returns c).Else-to-from in
    let m = middle_is (goal.at.returns c).After-min-middle in
    let o : from ≤ middle = omega (arith, m, n.1, n.5) in
    let p : middle ≤ to = omega (arith, m) in
    let all_clauses = rows_are a.shape a.ink a.centre a.a a.b g c.placed-ring.ensures _ _ _ from to
    c.saturating_sub-from.ensures (to_is (goal.at.returns c).After-min-to)
    (rows_then a.shape a.ink g from middle to o p a.sheet.now _ _ c.upper_half-above.ensures.sheet_after c.lower_half.ensures.sheet_after)
    (c.join.ensures ∙ ap₂ join c.upper_half-above.ensures.value c.lower_half.ensures.value
    ∙ sym (rows_join a.shape a.ink g from middle to o p)) in
    record { sheet_after = all_clauses.0; value = all_clauses.1 }
