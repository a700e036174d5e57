-- The starred examples hold, proved together by computing, and so do our own.
use Prim.Native.Nat.{ℕ, ◌≤◌}
use mathlib.Core.Path.{◌≡◌, refl}
use mathlib.Core.List.{List}
use native.Mathlib.Omega.{arith}
use lib.ListN.{length}
use lib.Dec.{T}
use lib.IntN.{ℤ, pos, nat_abs}
use Rattle.laws.proofs.Apart.{apart}
use Rattle.laws.proofs.Ints.{parts, one_zero}
use Rattle.sheet.specs.Chain.{wide, tall}
use Rattle.sheet.specs.Sheet.{cell_of}
use Rattle.sheet.specs.declared.Cell.{Cell}
use Rattle.line.specs.Rule.{lesser, rise, from_lesser, nth}
use Rattle.line.specs.Listing.{listed}
use Rattle.ring.specs.Ring.{around, nearest, ellipse_rule, on_ellipse}
use Rattle.ring.specs.Circle.{in_eighth, circle_rule, on_circle}
use Rattle.ring.proofs.Columns.{ellipse_within}
use Rattle.ring.proofs.Eighths.{circle_within}
use Rattle.curve.specs.Rule.{blend, coordinate_at, point_at}
use Rattle.drawing.specs.Starred.{ring, span, row, rows, among, near, mirrored, Holds, AllHold, none, also, from0, from2, from3, from32, starred_examples, from101, own_examples}

-- no cell of a ring about the origin is further away than its radius or its longer semi-axis
from_origin : (z : ℤ) → apart (pos 0) z ≡ nat_abs z
from_origin z = simp parts (omega (arith, one_zero z))

module _ (limit : ℕ) where
  in_circle : (r : ℕ) → r ≤ limit → (d : Cell) → T (on_circle (cell_of 0 0) r d) → (nat_abs d.x ≤ limit) × (nat_abs d.y ≤ limit)
  unfolding around
  in_circle r h d t =
      let w = circle_within r (wide (cell_of 0 0) d) (tall (cell_of 0 0) d) t in
      (omega (arith, from_origin d.x), omega (arith, from_origin d.y))

  in_ellipse : (a b : ℕ) → a ≤ limit → b ≤ limit → (d : Cell) → T (on_ellipse (cell_of 0 0) a b d) → (nat_abs d.x ≤ limit) × (nat_abs d.y ≤ limit)
  unfolding around
  in_ellipse a b h l d t =
      let w = ellipse_within a b (wide (cell_of 0 0) d) (tall (cell_of 0 0) d) t in
      (omega (arith, from_origin d.x), omega (arith, from_origin d.y))

  circle_holds : (r n : ℕ) (from : List Cell) → r ≤ limit → near limit (on_circle (cell_of 0 0) r) ≡ near limit (mirrored from)
      → length (near limit (on_circle (cell_of 0 0) r)) ≡ n → Holds (ring limit (on_circle (cell_of 0 0) r) from n)
  circle_holds r n from h e l = (in_circle r h, e, l)

  ellipse_holds : (a b n : ℕ) (from : List Cell) → a ≤ limit → b ≤ limit → near limit (on_ellipse (cell_of 0 0) a b) ≡ near limit (mirrored from)
      → length (near limit (on_ellipse (cell_of 0 0) a b)) ≡ n → Holds (ring limit (on_ellipse (cell_of 0 0) a b) from n)
  ellipse_holds a b n from h g e l = (in_ellipse a b h g, e, l)

pub starred : AllHold starred_examples
unfolding starred_examples among rows row span mirrored lesser rise from_lesser nth listed around circle_rule in_eighth ellipse_rule nearest blend coordinate_at point_at
starred =
    also refl
    (also refl
    (also refl
    (also refl
    (also refl
    (also refl
    (also (circle_holds 4 0 _ from0 (omega arith) refl refl)
    (also (circle_holds 4 2 _ from2 (omega arith) refl refl)
    (also (circle_holds 4 3 _ from3 (omega arith) refl refl)
    (also (ellipse_holds 4 3 2 _ from32 (omega arith) (omega arith) refl refl)
    (also refl
    (also refl
    none)))))))))))

pub own_examples_lem : AllHold own_examples
unfolding own_examples among rows row span mirrored around ellipse_rule nearest listed blend coordinate_at point_at
own_examples_lem =
    also (ellipse_holds 10 10 1 _ from101 (omega arith) (omega arith) refl refl)
    (also (ellipse_holds 4 0 0 _ from0 (omega arith) (omega arith) refl refl)
    (also refl
    (also refl
    (also refl
    none))))
