-- The four quadrants about a centre: their cells, and cells of them that touch.
use Prim.Native.Nat.{ℕ, suc, ◌+◌, ◌-◌, ◌≤◌, ◌<◌}
use mathlib.Core.Path.{◌≡◌, refl, sym, subst, ap, ap₂, ◌∙◌}
use mathlib.Core.Bool.{Bool, true, false, ◌&&◌}
use native.Mathlib.Omega.{arith}
use lib.Dec.{T, eqb, eqb→eq}
use lib.IntN.{ℤ, pos, ◌+ℤ◌, ◌-ℤ◌}
use Rattle.laws.specs.Equal.{eq_z}
use Rattle.laws.proofs.Apart.{apart, plus_apart, minus_apart}
use Rattle.laws.proofs.Ints.{parts, one_zero, le_parts, to_le_z, to_≡ℤ, eq_z→≡, eq_z_refl}
use Rattle.laws.proofs.Tests.{and_l, and_r, and_i, same, eqb_of}
use Rattle.sheet.specs.Chain.{wide, tall, Touch}
use Rattle.sheet.specs.Sheet.{is_cell}
use Rattle.sheet.specs.declared.Cell.{Cell}
use Rattle.sheet.proofs.Chains.{touching}
use Rattle.ring.specs.Holes.{on_side, off_by, in_quadrant, quadrant_cell}
use Rattle.ring.proofs.Offsets.{is_offset}

-- one axis: the place n from z on one side, and how far from it
module _ (z : ℤ) where
  off_far : (lower : Bool) (n : ℕ) → apart z (off_by lower z n) ≡ n
  off_far true n = simp parts (omega (arith, one_zero z))
  off_far false n = simp parts (omega (arith, one_zero z))

  off_side : (lower : Bool) (n : ℕ) → T (on_side lower z (off_by lower z n))
  off_side true n = to_le_z (z -ℤ pos n) z (simp parts (omega (arith, one_zero z)))
  off_side false n = to_le_z z (z +ℤ pos n) (simp parts (omega (arith, one_zero z)))

  far_off : (lower : Bool) (v : ℤ) → T (on_side lower z v) → v ≡ off_by lower z (apart z v)
  far_off true v t = let l = le_parts v z t in to_≡ℤ v (z -ℤ pos (apart z v)) (simp parts (omega (arith, one_zero z, one_zero v)))
  far_off false v t = let l = le_parts z v t in to_≡ℤ v (z +ℤ pos (apart z v)) (simp parts (omega (arith, one_zero z, one_zero v)))

  off_apart : (lower : Bool) (m n : ℕ) → apart (off_by lower z m) (off_by lower z n) ≡ (m - n) + (n - m)
  off_apart true m n = minus_apart z m n
  off_apart false m n = plus_apart z m n

  -- a place is that one exactly where it is on the side and so far off
  off_is : (lower : Bool) (n : ℕ) (v : ℤ) → eq_z v (off_by lower z n) ≡ (on_side lower z v && eqb (apart z v) n)
  off_is lower n v = same (eq_z v (off_by lower z n)) (on_side lower z v && eqb (apart z v) n) to from
    where
      to : T (eq_z v (off_by lower z n)) → T (on_side lower z v && eqb (apart z v) n)
      to t =
          let e = eq_z→≡ v (off_by lower z n) t in
          and_i (on_side lower z v) (eqb (apart z v) n)
          (subst (λ (w : ℤ). T (on_side lower z w)) (sym e) (off_side lower n))
          (eqb_of (apart z v) n (ap (apart z) e ∙ off_far lower n))

      from : T (on_side lower z v && eqb (apart z v) n) → T (eq_z v (off_by lower z n))
      from t =
          let e = eqb→eq (apart z v) n (and_r (on_side lower z v) (eqb (apart z v) n) t) in
          let f = far_off lower v (and_l (on_side lower z v) (eqb (apart z v) n) t) in
          subst (λ (w : ℤ). T (eq_z v w)) (f ∙ ap (off_by lower z) e) (eq_z_refl v)

-- two halves of two, in either order
in_turn : (a b c d : Bool) → ((a && b) && (c && d)) ≡ ((a && c) && (b && d))
in_turn false b c d = refl
in_turn true false false d = refl
in_turn true false true d = refl
in_turn true true c d = refl

module _ (left above : Bool) (c : Cell) where
  -- a cell is the cell (x, y) of a quadrant exactly where it is in it, and x columns and y rows from the centre
  pub is_quadrant_cell : (x y : ℕ) (d : Cell)
      → is_cell (quadrant_cell left above c x y) d ≡ (in_quadrant left above c d && is_offset x y (wide c d) (tall c d))
  unfolding is_cell is_offset
  is_quadrant_cell x y d =
      ap₂ ◌&&◌ (off_is c.x left x d.x) (off_is c.y above y d.y)
      ∙ in_turn (on_side left c.x d.x) (eqb (wide c d) x) (on_side above c.y d.y) (eqb (tall c d) y)

  -- cells of it touch that are at most a column and a row apart, and not one
  pub quadrant_touch : (x y z v : ℕ) → z ≤ x → x ≤ suc z → y ≤ v → v ≤ suc y → z + y < x + v
      → Touch (quadrant_cell left above c x y) (quadrant_cell left above c z v)
  quadrant_touch x y z v p q r s n =
      let e = off_apart c.x left x z in
      let f = off_apart c.y above y v in
      touching (quadrant_cell left above c x y) (quadrant_cell left above c z v) (omega arith) (omega arith) (omega arith)
