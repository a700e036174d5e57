-- An ellipse has no holes: its semi-axes are from 1 up, or both are 0.
use Prim.Native.Nat.{ℕ}
use mathlib.Core.Path.{◌≡◌, sym, subst, ap, ◌∙◌}
use mathlib.Core.Bool.{Bool, true, cond, ◌&&◌}
use lib.Dec.{T, eqb}
use lib.IntN.{ℤ, pos, nat_abs, ◌+ℤ◌}
use Rattle.laws.proofs.Apart.{apart_plus}
use Rattle.laws.proofs.Tests.{is_true}
use Rattle.sheet.specs.Chain.{wide, tall}
use Rattle.sheet.specs.Sheet.{cell}
use Rattle.sheet.specs.declared.Cell.{Cell}
use Rattle.ring.specs.Ring.{around, ellipse_rule, on_ellipse}
use Rattle.ring.specs.Holes.{in_quadrant, OneChain, NoHoles}
use Rattle.ring.proofs.Chained.{from_first, all_onward}
use Rattle.ring.proofs.Downward.{ellipse_stairs}
use Rattle.ring.proofs.Stairs.{row_is, exchanged}

-- a cell so many columns and rows from the centre is the ellipse's where the rule has it
placed : (c : Cell) (a b : ℕ) (x y : ℤ) → T (ellipse_rule a b (nat_abs x) (nat_abs y)) → on_ellipse c a b (cell (c.x +ℤ x) (c.y +ℤ y)) ≡ true
unfolding around
placed c a b x y t =
    is_true (on_ellipse c a b (cell (c.x +ℤ x) (c.y +ℤ y)))
    (subst T (λ i. ellipse_rule a b (sym (apart_plus c.x x) i) (sym (apart_plus c.y y) i)) t)

chained : (c : Cell) (a b : ℕ) → eqb a 0 ≡ eqb b 0 → (left above : Bool) → OneChain left above c a b
unfolding around
chained c a b e left above =
    let s = ellipse_stairs a b e in
    let f = from_first s left above c in
    record {
      cells = f.cells;
      leads = f.leads;
      once = λ d. f.once d ∙ ap (λ (t : Bool). cond (in_quadrant left above c d && t) 1 0) (all_onward s (wide c d) (tall c d));
    }

pub no_holes : (c : Cell) (a b : ℕ) → eqb a 0 ≡ eqb b 0 → NoHoles c a b
no_holes c a b e =
    let s = ellipse_stairs a b e in
    record {
      every_column = λ x l. let o = s.column (nat_abs x) l in (pos o.0, placed c a b x (pos o.0) o.1);
      every_row = λ y l. let o = s.row (nat_abs y) l in (pos o.0, placed c a b (pos o.0) y o.1);
      chain = chained c a b e;
      row_interval = row_is s;
      column_interval = row_is (exchanged s);
    }
