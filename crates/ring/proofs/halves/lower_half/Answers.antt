-- `ring::halves::lower_half` meets its contract.
use Rattle.ring.proofs.Half.{Part, lower_off, lower_part, lower_height, small_spread, half_none, half_some}
use Rattle.ring.proofs.Rowed.{no_rows}
use native.Mathlib.Omega.{arith}
use mathlib.Core.Path.{◌≡◌, refl, ◌∙◌}
use Prim.Native.Nat.{◌+◌, ◌-◌, ◌*◌, ◌≤◌}
use Rattle.ring.proofs.halves.lower_half.Goals as goal
use Rattle.ring.proofs.halves.lower_half.Goals.{Else-past-near, Else-to-from}

pub returns-then-to-from : goal.returns-then-to-from
returns-then-to-from c =
    let a = c.args in
    let all_clauses = no_rows a.shape a.ink a.ring a.from a.to c.if-to-from.true a.sheet.now _ c.none.ensures in
    record { sheet_after = all_clauses.0; value = all_clauses.1 }

-- rows from the middle down
below : (c : Else-to-from) →
    let a = c.args in
    (a.ring.y ≤ a.from + 65536) × (a.to + 65536 ≤ a.ring.y + a.ring.b + 1)
below c = c.requires.y_bound c.if-to-from.false

pub returns-then-past-near : goal.returns-then-past-near
returns-then-past-near c =
    let a = c.args in
    let f = below (goal.at.returns-then-past-near c).Else-to-from in
    let all_clauses = half_none a.shape a.ink a.ring c.requires.sheet.1 a.from a.to _ _ _ _
    (λ j u v. lower_off a.ring.y a.from a.to j u v f.0)
    c.nearest_row-near.ensures c.past_furthest-past.ensures c.if-past-near.true a.sheet.now _ _ refl c.none-then-past-near.ensures in
    record { sheet_after = all_clauses.0; value = all_clauses.1 }

below_2 : (c : Else-past-near) →
    let a = c.args in
    (a.ring.y ≤ a.from + 65536) × (a.to + 65536 ≤ a.ring.y + a.ring.b + 1)
below_2 c = c.requires.y_bound c.if-to-from.false

-- how far from the middle the rows that have a cell on the sheet are
numbers : (c : Else-past-near) →
    let a = c.args in
    let near = c.nearest_row-near.result in
    let past = c.past_furthest-past.result in
    (a.from + 65536 ≤ a.ring.y + near) × (a.ring.y + past ≤ a.to + 65536)
    × (a.ring.y ≤ a.from + 65536) × (a.to + 65536 ≤ a.ring.y + a.ring.b + 1)
numbers c =
    let f = below_2 c in (
      omega (arith, c.nearest_row-near.ensures.low),
      omega (arith, c.past_furthest-past.ensures.high, c.if-to-from.false, f),
      f.0,
      f.1,
    )

part : (c : Else-past-near) →
    let a = c.args in
    let near = c.nearest_row-near.result in
    let past = c.past_furthest-past.result in
    Part a.ring.y a.from a.to (a.ring.y + near - 65536) (a.ring.y + past - 65536) near past
part c =
    let a = c.args in
    let n = numbers c in
    lower_part a.ring.y a.from a.to _ _ _ _ c.if-past-near.false n.2 n.0 n.1 (omega (arith, n)) (omega (arith, n, c.if-past-near.false))

pub spread-requires : goal.spread-requires
spread-requires c =
    let A = part (goal.at.spread-requires c).Else-past-near in
    let m = small_spread c.requires.sheet.1 c.requires.sheet.0 _ _ _ _ _ _ _ _ c.lower_rows-last.ensures.front_of_2 c.front_at-first.ensures
    c.end_after-low.ensures c.row_end-high.ensures in
    record { width_bound = m.0; top_bound = (omega (arith, A.some, A.last, c.requires.sheet.3, c.requires.sheet.0.high), omega (arith, A.last, c.requires.sheet.3, c.requires.sheet.0.high), m.1, m.2) }

pub returns : goal.returns
returns c =
    let a = c.args in
    let g = a.ring in
    let near = c.nearest_row-near.result in
    let past = c.past_furthest-past.result in
    let n = numbers (goal.at.returns c).Else-past-near in
    let b : a.to + 65536 - g.y ≤ g.b + 1 = omega (arith, n) in
    let e : 2 * past - 1 ≡ 2 * (past - 1) + 1 = omega (arith, c.if-past-near.false) in
    let f = lower_height g.y past (omega (arith, n, c.if-past-near.false)) ∙ e in
    let all_clauses = half_some a.shape a.ink g c.requires.sheet.1 a.from a.to _ _ near past
    (λ j u v. lower_off g.y a.from a.to j u v n.2) c.nearest_row-near.ensures c.past_furthest-past.ensures
    _ _ (part (goal.at.returns c).Else-past-near) c.if-past-near.false b c.requires.sheet.3 a.sheet.now _ c.requires.sheet.0 _ _ _
    (rw f at c.lower_rows-last.ensures.front_of_2) (rw c.saturating_sub.ensures at c.front_at-first.ensures)
    c.lower_rows-last.ensures.sheet_after (rw (c.end_after-low.ensures, c.row_end-high.ensures) at c.spread.ensures) in
    record { sheet_after = all_clauses.0; value = all_clauses.1 }
