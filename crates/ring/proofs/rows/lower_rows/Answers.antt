-- `ring::rows::lower_rows` meets its contract: before each turn the rows before `row` are inked, and the front above it is known.
use Rattle.ring.proofs.Tested.{sheet_still}
use Rattle.ring.proofs.Rowed.{Bounded, falls, rows_none, inked_more}
use native.Mathlib.Omega.{arith}
use Prim.Native.Nat.{◌+◌, ◌-◌, ◌*◌}
use Rattle.ring.proofs.rows.lower_rows.Goals as goal
use Rattle.ring.proofs.rows.lower_rows.Goals.{After-row_end-in-loop-row}

pub loop-row-init : goal.loop-row-init
loop-row-init c =
    let a = c.args in
    record {
      order = omega arith;
      within = c.requires.sheet.2;
      front = c.requires.front_of;
      painted = rows_none a.shape a.ink a.ring a.from a.sheet.now;
    }

-- the row between the two fronts
bounded : (c : After-row_end-in-loop-row) →
    let l = c.loop-row in
    let g = c.args.ring in
    Bounded g l.row c.row_end.result c.row_end-in-loop-row.result (2 * (l.row + 1 + 65536 - g.y) - 1) c.fallen-outer.result
bounded c =
    let l = c.loop-row in
    falls c.args.shape c.args.ring c.requires.sheet.1 l.row _ _ _ _
    (omega (arith, c.requires.y_bound, c.requires.front_of, c.loop-row-test.true)) (omega (arith, c.requires.y_bound, c.requires.front_of, l.invariant.order, c.loop-row-test.true))
    l.invariant.front c.fallen-outer.ensures c.row_end.ensures c.row_end-in-loop-row.ensures

pub ink_row-requires : goal.ink_row-requires
ink_row-requires c =
    let p = c.requires.sheet in
    let N = bounded c in
    let S = sheet_still _ _ _ _ _ c.loop-row.invariant.painted p.0 in
    (S, p.1, omega (arith, c.loop-row-test.true, p.3), N.bounds.order, N.bounds.within)

pub loop-row-preserved : goal.loop-row-preserved
loop-row-preserved c =
    let a = c.args in
    inked_more a.shape a.ink a.ring c.requires.sheet.1 c.loop-row-test.true (bounded (goal.at.loop-row-preserved c).After-row_end-in-loop-row)
    c.loop-row.invariant c.ink_row.ensures
