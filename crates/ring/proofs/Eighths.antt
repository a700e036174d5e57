-- A circle is the ellipse of equal axes; of radius 0 both are the centre.
use Prim.Native.Nat.{ℕ, zero, suc, ◌+◌, ◌-◌, ◌*◌, ◌≤◌, ◌<◌}
use mathlib.Core.Path.{◌≡◌, refl, sym, subst, ◌∙◌}
use mathlib.Core.Logic.{◌⊎◌, inl, inr, ⊎_elim}
use mathlib.Core.List.{List}
use mathlib.Core.Bool.{Bool, false, ◌&&◌, ◌||◌}
use native.Mathlib.Omega.{arith}
use native.Mathlib.Nat.{mul-le-mul_left, lt_of_mul-lt-mul_left, le_of_mul-le-mul_left}
use borrow.Author.Tests.{le-ltb, le-leb}
use lib.Dec.{T, leb, eqb, leb→le, le→leb, eqb→eq, eqb-suc-zero}
use lib.IntN.{ℤ, pos, ◌-ℤ◌}
use lib.Signed.{le_z, lt_z}
use Rattle.laws.proofs.Parts.{up, dn}
use Rattle.laws.proofs.Ints.{parts, le_parts, lt_parts, to_le_z, to_lt_z}
use Rattle.laws.proofs.Products.{lt_or_ge, sq_le, sq_lt_back}
use Rattle.laws.proofs.Tests.{and_l, and_r, and_i, or_l, or_r, or_e, same}
use Rattle.sheet.specs.Chain.{wide, tall}
use Rattle.sheet.specs.Sheet.{cell_of, paint}
use Rattle.sheet.specs.declared.Cell.{Cell}
use Rattle.sheet.specs.declared.Shape.{Shape}
use Rattle.sheet.proofs.Paint.{paint_as}
use Rattle.ring.specs.Ring.{around, ellipse_rule, on_ellipse}
use Rattle.ring.specs.Circle.{in_eighth, circle_rule, on_circle, CircleIsEllipse}
use Rattle.ring.proofs.Least.{edge, Least}
use Rattle.ring.proofs.Reach.{reach}
use Rattle.ring.proofs.Columns.{columns, InColumns, columns→, →columns, columns_and_rows, ellipse_within, ellipse_zero}

-- what the rule says of an offset (x, y) with y = j + 1
record Eighth (r x j : ℕ) : Type 0 where
  pub steep : x ≤ suc j
  pub low : suc j * j + x * x < r * r
  pub high : r * r ≤ suc j * (suc j + 1) + x * x

module _ (r x j : ℕ) where
  rest : ℤ
  rest = pos (r * r) -ℤ pos (x * x)

  up_rest : up rest ≡ r * r - x * x
  unfolding rest
  up_rest = simp parts (omega arith)

  dn_rest : dn rest ≡ x * x - r * r
  unfolding rest
  dn_rest = simp parts (omega arith)

  between : Bool
  between = lt_z (pos (suc j * j)) rest && le_z rest (pos (suc j * (suc j + 1)))

  eighth_suc : in_eighth (pos r) (pos x) (pos (suc j)) ≡ (leb x (suc j) && (between || false))
  unfolding in_eighth rest between
  eighth_suc =
      let e : suc j - 1 ≡ j = omega arith in
      simp (le-ltb (suc j) 1 (omega arith), le-leb 1 (suc j) (omega arith), e, eqb-suc-zero)

  eighth→ : T (in_eighth (pos r) (pos x) (pos (suc j))) → Eighth r x j
  unfolding between
  eighth→ t =
      let u = subst T eighth_suc t in
      let h = and_l (leb x (suc j)) (between || false) u in
      let o : T (between || false) = and_r (leb x (suc j)) (between || false) u in
      elim (or_e between false o) [
        | inl p ↦
            let l = lt_parts (pos (suc j * j)) rest (and_l (lt_z (pos (suc j * j)) rest) (le_z rest (pos (suc j * (suc j + 1)))) p) in
            let g = le_parts rest (pos (suc j * (suc j + 1))) (and_r (lt_z (pos (suc j * j)) rest) (le_z rest (pos (suc j * (suc j + 1)))) p) in
            record { steep = leb→le x (suc j) h; low = omega (arith, up_rest, dn_rest); high = omega (arith, up_rest, dn_rest) }
        | inr p ↦ absurd p
      ]

  →eighth : Eighth r x j → T (in_eighth (pos r) (pos x) (pos (suc j)))
  unfolding between
  →eighth i =
      let h = le→leb x (suc j) i.steep in
      let l = to_lt_z (pos (suc j * j)) rest (omega (arith, up_rest, dn_rest, i.low)) in
      let g = to_le_z rest (pos (suc j * (suc j + 1))) (omega (arith, up_rest, dn_rest, i.high)) in
      subst T (sym eighth_suc) (and_i (leb x (suc j)) (between || false) h (or_l between false (and_i (lt_z (pos (suc j * j)) rest) (le_z rest (pos (suc j * (suc j + 1)))) l g)))

  -- y(y − 1) < r² − x² ≤ y(y + 1) is r²(2y − 1)² ≤ 4r²(r² − x²) < r²(2y + 1)²
  eighth_least : 1 ≤ r → x ≤ r → Eighth r x j → Least (r * r) (reach r r x) (suc j)
  unfolding edge reach
  eighth_least h k i =
      let e : (r * r - x * x) + x * x ≡ r * r = omega (arith, sq_le k) in
      record {
        low = λ n l.
            let g : (2 * n + 1) * (2 * n + 1) ≤ 4 * (r * r - x * x) = omega (arith, sq_le {a = n} {b = j} (omega arith), i.low) in
            omega (arith, mul-le-mul_left (r * r) g);
        high =
            let g : r * r - x * x ≤ suc j * (suc j + 1) = omega (arith, i.high) in
            omega (arith, mul-le-mul_left (r * r) g, sq_le h);
      }

  -- and back, half by half
  least_low : 1 ≤ r → x ≤ r → Least (r * r) (reach r r x) (suc j) → suc j * j + x * x < r * r
  unfolding edge reach
  least_low h k n =
      let e : (r * r - x * x) + x * x ≡ r * r = omega (arith, sq_le k) in
      let l : (2 * j + 1) * (2 * j + 1) ≤ 4 * (r * r - x * x) = le_of_mul-le-mul_left {k = r * r} (omega (arith, n.low j (omega arith))) (sq_le h) in
      omega arith

least_high : (r x y : ℕ) → x ≤ r → Least (r * r) (reach r r x) y → r * r ≤ y * (y + 1) + x * x
unfolding edge reach
least_high r x y k n =
    let e : (r * r - x * x) + x * x ≡ r * r = omega (arith, sq_le k) in
    let l : 4 * (r * r - x * x) < (2 * y + 1) * (2 * y + 1) = lt_of_mul-lt-mul_left (r * r) (omega (arith, n.high)) in
    omega arith

-- the offset (x, 0) is in an eighth only of radius 0, and only at x = 0
eighth_zero : (r x : ℕ) → T (in_eighth (pos r) (pos x) (pos 0)) → (x ≡ 0) × (r ≡ 0)
unfolding in_eighth
eighth_zero r x t =
    let l = leb→le x 0 (and_l (leb x 0) (eqb r 0) t) in
    (omega arith, eqb→eq r 0 (and_r (leb x 0) (eqb r 0) t))

module _ (r : ℕ) (h : 1 ≤ r) where
  -- a cell of the column rule with equal axes is in an eighth, where it is no further across than down
  straight : (x y : ℕ) → x ≤ y → InColumns r r x y → T (in_eighth (pos r) (pos x) (pos y))
  straight x zero l i = absurd (omega (arith, least_high r x 0 i.within i.least, sq_le {a = x} {b = 0} l, sq_le h))
  straight x (suc j) l i =
      →eighth r x j (record { steep = l; low = least_low r x j h i.within i.least; high = omega (arith, least_high r x (suc j) i.within i.least) })

  -- and in the other one, where it is further across than down
  turned_low : (k y : ℕ) → y < suc k → InColumns r r (suc k) y → suc k * k + y * y < r * r
  turned_low k zero l i = omega (arith, sq_le i.within)
  turned_low k (suc j) l i = omega (arith, least_low r (suc k) j h i.within i.least)

  across : (x y : ℕ) → y < x → InColumns r r x y → T (in_eighth (pos r) (pos y) (pos x))
  across zero y l i = absurd (omega arith)
  across (suc k) y l i =
      →eighth r y k (record { steep = omega arith; low = turned_low k y l i; high = omega (arith, least_high r (suc k) y i.within i.least) })

  in_eighth_lem : (x y : ℕ) → T (columns r r x y) → T (in_eighth (pos r) (pos x) (pos y)) ⊎ T (in_eighth (pos r) (pos y) (pos x))
  in_eighth_lem x y t =
      let i = columns→ r r x y t in
      elim (lt_or_ge y x) [ inl l ↦ inr (across x y l i) | inr l ↦ inl (straight x y l i) ]

  -- an eighth's cells are of the column rule
  of_eighth : (x y : ℕ) → T (in_eighth (pos r) (pos x) (pos y)) → T (columns r r x y)
  of_eighth x zero t = absurd (omega (arith, eighth_zero r x t))
  of_eighth x (suc j) t =
      let i = eighth→ r x j t in
      let k : x < r = sq_lt_back x r (omega (arith, i.low)) in
      →columns r r x (suc j) (record { within = omega arith; least = eighth_least r x j h (omega arith) i })

  from_one : (u v : ℕ) → ellipse_rule r r u v ≡ circle_rule r u v
  unfolding circle_rule
  from_one u v = sym (columns_and_rows r r h h u v) ∙ same (columns r r u v || columns r r v u) (E || F) to from
    where
      E : Bool
      E = in_eighth (pos r) (pos u) (pos v)

      F : Bool
      F = in_eighth (pos r) (pos v) (pos u)

      to : T (columns r r u v || columns r r v u) → T (E || F)
      to t =
          elim (or_e (columns r r u v) (columns r r v u) t) [
            | inl t ↦ ⊎_elim (or_l E F) (or_r E F) (in_eighth_lem u v t)
            | inr t ↦ ⊎_elim (or_r E F) (or_l E F) (in_eighth_lem v u t)
          ]

      from : T (E || F) → T (columns r r u v || columns r r v u)
      from t =
          elim (or_e E F t) [
            | inl t ↦ or_l (columns r r u v) (columns r r v u) (of_eighth u v t)
            | inr t ↦ or_r (columns r r u v) (columns r r v u) (of_eighth v u t)
          ]

-- the circle of radius 0 is its centre, as the ellipse of both axes 0 is
circle_zero : (u v : ℕ) → u ≡ 0 → v ≡ 0 → T (circle_rule 0 u v)
unfolding circle_rule in_eighth
circle_zero u v e f = rw (e, f) tt

of_zero : (u v : ℕ) → ellipse_rule 0 0 u v ≡ circle_rule 0 u v
unfolding circle_rule
of_zero u v = same (ellipse_rule 0 0 u v) (in_eighth (pos 0) (pos u) (pos v) || in_eighth (pos 0) (pos v) (pos u)) to from
  where
    at : (x y : ℕ) → T (in_eighth (pos 0) (pos x) (pos y)) → (x ≡ 0) × (y ≡ 0)
    at x zero t = ((eighth_zero 0 x t).0, refl)
    at x (suc j) t = absurd (omega (arith, (eighth→ 0 x j t).low))

    to : T (ellipse_rule 0 0 u v) → T (in_eighth (pos 0) (pos u) (pos v) || in_eighth (pos 0) (pos v) (pos u))
    to t =
        let w = ellipse_within 0 0 u v t in
        circle_zero u v (omega arith) (omega arith)

    from : T (in_eighth (pos 0) (pos u) (pos v) || in_eighth (pos 0) (pos v) (pos u)) → T (ellipse_rule 0 0 u v)
    from t =
        elim (or_e (in_eighth (pos 0) (pos u) (pos v)) (in_eighth (pos 0) (pos v) (pos u)) t) [
          | inl t ↦ let e = at u v t in ellipse_zero u v e.0 e.1
          | inr t ↦ let e = at v u t in ellipse_zero u v e.1 e.0
        ]

-- the two rules are one, for every radius
equal_axes : (r u v : ℕ) → ellipse_rule r r u v ≡ circle_rule r u v
equal_axes zero u v = of_zero u v
equal_axes (suc r) u v = from_one (suc r) (omega arith) u v

pub circle_is_ellipse : CircleIsEllipse
unfolding around
circle_is_ellipse c r d = equal_axes r (wide c d) (tall c d)

-- a circle's cells are within its radius
pub circle_within : (r x y : ℕ) → T (circle_rule r x y) → (x ≤ r) × (y ≤ r)
circle_within r x y t = ellipse_within r r x y (subst T (sym (equal_axes r x y)) t)

-- so drawing equal axes paints the circle
pub circle_painted : (k : Shape) (ink : ℕ) (c : Cell) (r : ℕ) (s : List ℕ) → paint k ink (on_ellipse c r r) s ≡ paint k ink (on_circle c r) s
circle_painted k ink c r s = paint_as k ink (on_ellipse c r r) (on_circle c r) s (λ i j _ _. circle_is_ellipse c r (cell_of i j))
