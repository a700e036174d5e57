-- `ring::rows::rows_round` meets its contract: the rows above the middle, and those from it down.
use Rattle.ring.proofs.Breadth.{round_box}
use Rattle.ring.proofs.Fronts.{front_level}
use Rattle.ring.proofs.Rowed.{rows_then}
use Rattle.ring.proofs.Tested.{sheet_still}
use native.Mathlib.Omega.{arith}
use mathlib.Core.Path.{◌≡◌, sym}
use Prim.Native.Nat.{◌+◌, ◌-◌, ◌*◌}
use Rattle.ring.proofs.rows.rows_round.Goals as goal

pub lower_rows-requires : goal.lower_rows-requires
lower_rows-requires c =
    let g = c.args.ring in
    let P = c.requires.sheet.1 in
    let e : 2 * (g.y - 65536 + 65536 - g.y) - 1 ≡ 0 = omega (arith, c.requires.from_bound) in record { sheet = (sheet_still _ _ _ _ _ c.upper_rows.ensures.sheet_after c.requires.sheet.0, P, omega (arith, c.requires.from_bound), c.requires.sheet.3); y_bound = (omega (arith, c.requires.from_bound), c.requires.y_bound.1); front_of = rw e (front_level g.a g.b g.least g.past (omega (arith, P.some)) P.most) }

pub returns : goal.returns
returns c =
    let a = c.args in
    record {
      sheet_after = rows_then a.shape a.ink a.ring a.from (a.ring.y - 65536) a.to (omega (arith, c.requires.from_bound)) (omega (arith, c.requires.from_bound))
          a.sheet.now _ _ c.upper_rows.ensures.sheet_after c.lower_rows.ensures.sheet_after;
      value = sym
          (round_box a.shape a.ring c.requires.sheet.1 c.requires.sheet.0 c.requires.sheet.2 a.from a.to c.requires.sheet.3 c.requires.from_bound.0 c.requires.from_bound.1
          c.requires.y_bound.0 c.requires.y_bound.1);
    }
