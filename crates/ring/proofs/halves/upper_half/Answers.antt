-- `ring::halves::upper_half` meets its contract.
use Rattle.ring.proofs.Half.{Part, upper_off, upper_part, upper_height, small_spread, half_none, half_some}
use Rattle.ring.proofs.Rowed.{no_rows}
use native.Mathlib.Omega.{arith}
use mathlib.Core.Path.{◌≡◌, refl}
use Prim.Native.Nat.{◌+◌, ◌-◌, ◌*◌, ◌≤◌}
use Rattle.ring.proofs.halves.upper_half.Goals as goal
use Rattle.ring.proofs.halves.upper_half.Goals.{Else-past-near, Else-to-from}

pub returns-then-to-from : goal.returns-then-to-from
returns-then-to-from c =
    let a = c.args in
    let all_clauses = no_rows a.shape a.ink a.ring a.from a.to c.if-to-from.true a.sheet.now _ c.none.ensures in
    record { sheet_after = all_clauses.0; value = all_clauses.1 }

-- rows above the middle
above : (c : Else-to-from) →
    let a = c.args in
    (a.to + 65536 ≤ a.ring.y) × (a.ring.y ≤ a.from + 65536 + a.ring.b)
above c = c.requires.to_bound c.if-to-from.false

pub returns-then-past-near : goal.returns-then-past-near
returns-then-past-near c =
    let a = c.args in
    let f = above (goal.at.returns-then-past-near c).Else-to-from in
    let all_clauses = half_none a.shape a.ink a.ring c.requires.sheet.1 a.from a.to _ _ _ _
    (λ j u v. upper_off a.ring.y a.from a.to j u v f.0)
    c.nearest_row-near.ensures c.past_furthest-past.ensures c.if-past-near.true a.sheet.now _ _ refl c.none-then-past-near.ensures in
    record { sheet_after = all_clauses.0; value = all_clauses.1 }

above_2 : (c : Else-past-near) →
    let a = c.args in
    (a.to + 65536 ≤ a.ring.y) × (a.ring.y ≤ a.from + 65536 + a.ring.b)
above_2 c = c.requires.to_bound c.if-to-from.false

-- how far from the middle the rows that have a cell on the sheet are
numbers : (c : Else-past-near) →
    let a = c.args in
    let near = c.nearest_row-near.result in
    let past = c.past_furthest-past.result in
    (a.ring.y ≤ near + a.to + 65535) × (past + a.from + 65535 ≤ a.ring.y)
    × (a.to + 65536 ≤ a.ring.y) × (a.ring.y ≤ a.from + 65536 + a.ring.b)
numbers c =
    let f = above_2 c in (
      omega (arith, c.nearest_row-near.ensures.low),
      omega (arith, c.past_furthest-past.ensures.high, c.if-to-from.false, f),
      f.0,
      f.1,
    )

part : (c : Else-past-near) →
    let a = c.args in
    let near = c.nearest_row-near.result in
    let past = c.past_furthest-past.result in
    Part a.ring.y a.from a.to (a.ring.y - 65535 - past) (a.ring.y - 65535 - near) near past
part c =
    let a = c.args in
    let n = numbers c in
    upper_part a.ring.y a.from a.to _ _ _ _ c.if-past-near.false (a.ring.y - 65535) (omega (arith, n)) (omega (arith, n))
    (omega (arith, n)) (omega (arith, n)) (omega (arith, n, c.if-past-near.false)) (omega (arith, n, c.if-past-near.false))

pub spread-requires : goal.spread-requires
spread-requires c =
    let A = part (goal.at.spread-requires c).Else-past-near in
    let m = small_spread c.requires.sheet.1 c.requires.sheet.0 _ _ _ _ _ _ _ _ c.front_at-first.ensures c.upper_rows-last.ensures.front_of_2
    c.row_end-low.ensures c.end_after-high.ensures in
    record { width_bound = m.0; top_bound = (omega (arith, A.some, A.last, c.requires.sheet.3, c.requires.sheet.0.high), omega (arith, A.last, c.requires.sheet.3, c.requires.sheet.0.high), m.1, m.2) }

pub returns : goal.returns
returns c =
    let a = c.args in
    let g = a.ring in
    let near = c.nearest_row-near.result in
    let past = c.past_furthest-past.result in
    let n = numbers (goal.at.returns c).Else-past-near in
    let b : g.y - 65535 - a.from ≤ g.b + 1 = omega (arith, n) in
    let e : 2 * past - 1 ≡ 2 * (past - 1) + 1 = omega (arith, c.if-past-near.false) in
    let f = upper_height g.y near (omega (arith, n)) (omega (arith, n, c.if-past-near.false)) in
    let all_clauses = half_some a.shape a.ink g c.requires.sheet.1 a.from a.to _ _ near past
    (λ j u v. upper_off g.y a.from a.to j u v n.2) c.nearest_row-near.ensures c.past_furthest-past.ensures
    _ _ (part (goal.at.returns c).Else-past-near) c.if-past-near.false b c.requires.sheet.3 a.sheet.now _ c.requires.sheet.0 _ _ _
    (rw e at c.front_at-first.ensures) (rw f at c.upper_rows-last.ensures.front_of_2) c.upper_rows-last.ensures.sheet_after
    (rw (c.row_end-low.ensures, c.end_after-high.ensures) at c.spread.ensures) in
    record { sheet_after = all_clauses.0; value = all_clauses.1 }
