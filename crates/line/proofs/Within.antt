-- A line whose ends are within the limits stays within them.
use Rattle.std.proofs.Common.{◌≡◌, ℕ, ◌+◌, ◌-◌, ◌≤◌, Bool, true, false, cond, ℤ, pos, ◌+ℤ◌, ◌-ℤ◌, nat_abs, refl, ap, ◌∙◌, arith}
use lib.Signed.{le_z}
use Rattle.laws.proofs.Parts.{up, dn}
use Rattle.laws.proofs.Ints.{parts, nat_abs_is, one_zero, le_z_true, le_z_false}
use Rattle.sheet.specs.Chain.{wide, tall}
use Rattle.sheet.specs.Sheet.{coordinate, within_limits}
use Rattle.sheet.specs.Inner.{lowered_cell}
use Rattle.sheet.specs.declared.Cell.{Cell}
use Rattle.sheet.specs.declared.Spot.{Spot}
use Rattle.sheet.proofs.Limits.{LiftedCell, limit_low, limit_high, limit_in, limits_x, limits_y, lowered_cell_lem}
use Rattle.line.specs.Rule.{lesser, long, steep, rise, toward, from_lesser, nth}
use Rattle.line.specs.Listing.{listed}
use Rattle.line.specs.Inner.Course.{spot_at, lesser_spot, path_between}
use Rattle.line.proofs.Bridge.{lesser_is, course_cell_lem, course_long, long_limit}
use Rattle.line.proofs.EitherEnd.{long_sym}
use Rattle.line.proofs.Rise.{rise_short, from_either}

-- no more steps from z than there are to w
toward_in : (z w : ℤ) (k : ℕ) → coordinate z ≡ true → coordinate w ≡ true → k ≤ nat_abs (w -ℤ z) → coordinate (toward z w k) ≡ true
toward_in z w k e f l = by (le_z z w) refl
  where
    m : k ≤ up (w -ℤ z) + dn (w -ℤ z)
    m = omega (arith, nat_abs_is (w -ℤ z))

    by : (t : Bool) → le_z z w ≡ t → coordinate (cond t (z +ℤ pos k) (z -ℤ pos k)) ≡ true
    by true h =
        let g = simp parts at m in
        limit_in (z +ℤ pos k)
        (simp parts (omega (arith, limit_low z e)))
        (simp parts (omega (arith, limit_high w f, le_z_true z w h, one_zero z, one_zero w)))
    by false h =
        let g = simp parts at m in
        limit_in (z -ℤ pos k)
        (simp parts (omega (arith, limit_low w f, le_z_false z w h, one_zero z, one_zero w)))
        (simp parts (omega (arith, limit_high z e)))

-- steps along x and along y are no more than the two extents
along : (w t n : ℕ) (u : Bool) → n ≤ cond u t w
    → (cond u (rise (cond u t w) (cond u w t) n) n ≤ w) × (cond u n (rise (cond u t w) (cond u w t) n) ≤ t)
along w t n true l = (rise_short t w n l, l)
along w t n false l = (l, rise_short w t n l)

from_in : (a b : Cell) (n : ℕ) → within_limits a ≡ true → within_limits b ≡ true → n ≤ long a b → within_limits (from_lesser a b n) ≡ true
unfolding from_lesser within_limits
from_in a b n e f l =
    let s = along (wide a b) (tall a b) n (steep a b) l in
    let x = toward_in a.x b.x _ (limits_x a e) (limits_x b f) s.0 in
    let y = toward_in a.y b.y _ (limits_y a e) (limits_y b f) s.1 in
    simp (x, y)

-- each cell of the line
pub nth_in : (a b : Cell) (n : ℕ) → within_limits a ≡ true → within_limits b ≡ true → n ≤ long a b → within_limits (nth a b n) ≡ true
unfolding nth
nth_in a b n e f l = by (lesser a b)
  where
    m : n ≤ long b a
    m = rw (long_sym a b) l

    by : (t : Bool) → within_limits (cond t (from_lesser a b n) (from_lesser b a n)) ≡ true
    by true = from_in a b n e f l
    by false = from_in b a n f e m

-- the nth cell of the listing, by the course of the two lifted ends
pub listed_cell : (a b : Cell) (p q : Spot) → within_limits a ≡ true → within_limits b ≡ true → LiftedCell a p → LiftedCell b q → (n : ℕ) → n ≤ long a b
    → lowered_cell (spot_at (path_between p q) (cond (lesser_spot p q) n ((path_between p q).long - n))) ≡ listed a b n
unfolding listed
listed_cell a b p q e f P Q n l =
    let m = cond (lesser a b) n (long a b - n) in
    let h : m ≤ long a b = from_either (lesser a b) n (long a b) l in
    ap (λ (k : ℕ). lowered_cell (spot_at (path_between p q) k)) (λ i. cond (lesser_is a b p q P Q i) n (course_long a b p q P Q i - n))
    ∙ lowered_cell_lem (spot_at (path_between p q) m) (nth a b m) (course_cell_lem a b p q P Q m (omega (arith, long_limit a b p q P Q))) (nth_in a b m e f h)
