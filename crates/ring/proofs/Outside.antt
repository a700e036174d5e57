-- Outside the ellipse: the laws of the test, and the column rule told by it.
use Prim.Native.Nat.{ℕ, zero, suc, ◌+◌, ◌-◌, ◌*◌, ◌≤◌, ◌<◌}
use mathlib.Core.Path.{◌≡◌, refl, sym, ap₂, ◌∙◌}
use mathlib.Core.Logic.{◌⊎◌, inl, inr}
use mathlib.Core.Bool.{Bool, true, false, true≢false}
use native.Mathlib.Omega.{arith}
use native.Mathlib.Nat.{mul-le-mul, mul-le-mul_left}
use borrow.Author.Tests.{ltb-true, ltb-false, lt-ltb, le-ltb}
use lib.Dec.{T, ltb}
use Rattle.laws.proofs.Products.{sq_le}
use Rattle.ring.specs.Ring.{ellipse_rule}
use Rattle.ring.specs.Inner.{outside}
use Rattle.ring.proofs.Least.{edge, Least, least_after, least_zero}
use Rattle.ring.proofs.Reach.{reach, reach_sum}
use Rattle.ring.proofs.Columns.{InColumns, nearest_in, in_column, in_row}

-- the two sides of the test
abbrev limit : ℕ → ℕ → ℕ
limit a b = 2 * (a * b) * (2 * (a * b))

abbrev sum : ℕ → ℕ → ℕ → ℕ → ℕ
sum a b u v = b * u * (b * u) + a * v * (a * v)

module _ (a b u v : ℕ) where
  out→ : outside a b u v ≡ true → limit a b < sum a b u v
  unfolding outside
  out→ e = ltb-true (limit a b) (sum a b u v) e

  in→ : outside a b u v ≡ false → sum a b u v ≤ limit a b
  unfolding outside
  in→ e = ltb-false (limit a b) (sum a b u v) e

  →out : limit a b < sum a b u v → outside a b u v ≡ true
  unfolding outside
  →out h = lt-ltb (limit a b) (sum a b u v) h

  →in : sum a b u v ≤ limit a b → outside a b u v ≡ false
  unfolding outside
  →in h = le-ltb (limit a b) (sum a b u v) h

-- further from the centre is outside too, and nearer is not
module _ (a b u v s t : ℕ) (p : u ≤ s) (q : v ≤ t) where
  sum_up : sum a b u v ≤ sum a b s t
  sum_up = omega (arith, sq_le (mul-le-mul_left b p), sq_le (mul-le-mul_left a q))

  pub outside_up : outside a b u v ≡ true → outside a b s t ≡ true
  outside_up e = →out a b s t (omega (arith, out→ a b u v e, sum_up))

  pub outside_down : outside a b s t ≡ false → outside a b u v ≡ false
  outside_down e = →in a b u v (omega (arith, in→ a b s t e, sum_up))

-- not both
pub in_or_out : {t : Bool} → t ≡ true → t ≡ false → ⊥
in_or_out p q = true≢false (sym p ∙ q)

-- with the axes and the coordinates exchanged it is the same
pub outside_turned : (a b u v : ℕ) → outside b a v u ≡ outside a b u v
unfolding outside
outside_turned a b u v =
    let e : limit b a ≡ limit a b = omega arith in
    let f : sum b a v u ≡ sum a b u v = omega arith in
    ap₂ ltb e f

-- what is beside the ellipse at any height is outside, and at the height 0 nothing before
pub all_beside : (a b u v : ℕ) → 1 ≤ a → 1 ≤ v → 2 * a ≤ u → outside a b u v ≡ true
all_beside a b u v p q r =
    let h : 2 * (a * b) ≤ b * u = omega (arith, mul-le-mul_left b r) in
    →out a b u v (omega (arith, sq_le h, sq_le (mul-le-mul {n₁ = 1} {m₁ = 1} {n₂ = a} {m₂ = v} p q)))

pub level_inside : (a b u : ℕ) → u ≤ 2 * a → outside a b u 0 ≡ false
level_inside a b u r =
    let h : b * u ≤ 2 * (a * b) = omega (arith, mul-le-mul_left b r) in
    →in a b u 0 (omega (arith, sq_le h))

pub level_outside : (a b u : ℕ) → 1 ≤ b → 2 * a < u → outside a b u 0 ≡ true
level_outside a b u q r =
    let h : 2 * (a * b) + 1 ≤ b * u = omega (arith, mul-le-mul_left b r) in
    →out a b u 0 (omega (arith, sq_le h))

-- the column rule: the upper side of the cell is outside, and the lower side is not
pub record Column (a b x y : ℕ) : Type 0 where
  pub within : x ≤ a
  pub above : outside a b (2 * x) (2 * y + 1) ≡ true
  pub below : (j : ℕ) → y ≡ suc j → outside a b (2 * x) (2 * j + 1) ≡ false

column→ : (a b x y : ℕ) → InColumns a b x y → Column a b x y
unfolding edge
column→ a b x y i =
    record {
      within = i.within;
      above = →out a b (2 * x) (2 * y + 1) (omega (arith, i.least.high, reach_sum a b x i.within));
      below = λ j e. →in a b (2 * x) (2 * j + 1) (omega (arith, i.least.low j (omega arith), reach_sum a b x i.within));
    }

least_of : (a b x y : ℕ) → Column a b x y → Least (a * a) (reach a b x) y
unfolding edge
least_of a b x zero c = least_zero (a * a) (reach a b x) 0 (omega arith) (omega (arith, out→ a b (2 * x) 1 c.above, reach_sum a b x c.within))
least_of a b x (suc j) c =
    let e : suc j - 1 ≡ j = omega arith in
    least_after (a * a) (reach a b x) (suc j) (omega arith)
    (rw e (omega (arith, in→ a b (2 * x) (2 * j + 1) (c.below j refl), reach_sum a b x c.within)))
    (omega (arith, out→ a b (2 * x) (2 * suc j + 1) c.above, reach_sum a b x c.within))

→column : (a b x y : ℕ) → Column a b x y → InColumns a b x y
→column a b x y c = record { within = c.within; least = least_of a b x y c }

-- a cell of the ellipse is of the column rule, or of the row rule: the column rule with the axes exchanged
module _ (a b : ℕ) (h : 1 ≤ a) (k : 1 ≤ b) (x y : ℕ) where
  pub rule→ : T (ellipse_rule a b x y) → Column a b x y ⊎ Column b a y x
  rule→ t = elim (nearest_in a b h k x y t) [ inl i ↦ inl (column→ a b x y i) | inr i ↦ inr (column→ b a y x i) ]

  pub column_rule : Column a b x y → T (ellipse_rule a b x y)
  column_rule c = in_column a b h k x y (→column a b x y c)

  pub row_rule : Column b a y x → T (ellipse_rule a b x y)
  row_rule c = in_row a b h k x y (→column b a y x c)

-- no product or sum of these sizes overflows
pub square_fits : (m n : ℕ) → m ≤ 16383 → n ≤ 32768 → m * n * (m * n) ≤ 288230376151711744
square_fits m n p q = sq_le {a = m * n} {b = 536870912} (mul-le-mul {n₁ = m} {m₁ = n} {n₂ = 16384} {m₂ = 32768} (omega arith) q)

pub double_fits : (m n : ℕ) → m ≤ 16383 → n ≤ 16383 → 2 * (m * n) * (2 * (m * n)) ≤ 288230376151711744
double_fits m n p q = sq_le {a = 2 * (m * n)} {b = 536870912} (omega (arith, mul-le-mul {n₁ = m} {m₁ = n} {n₂ = 16384} {m₂ = 16384} (omega arith) (omega arith)))
