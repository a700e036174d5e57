-- 4b²(a² − x²), the number that the nearest y of column x is measured by.
use Prim.Native.Nat.{ℕ, ◌+◌, ◌-◌, ◌*◌, ◌≤◌, ◌<◌}
use mathlib.Core.Path.{◌≡◌}
use mathlib.Core.Logic.{inl, inr}
use native.Mathlib.Omega.{arith}
use native.Mathlib.Nat.{mul-le-mul_left, mul-sub, sub-le-sub_left, sub-le}
use Rattle.laws.proofs.Products.{lt_or_ge, sq_le}
use Rattle.ring.proofs.Least.{edge, Least}

-- 4b²(a² − x²), where x ≤ a
unfoldable pub reach : ℕ → ℕ → ℕ → ℕ
reach a b x = 4 * (b * b) * (a * a - x * x)

pub reach_falls : (a b x z : ℕ) → x ≤ z → reach a b z ≤ reach a b x
unfolding reach
reach_falls a b x z h = mul-le-mul_left (4 * (b * b)) (sub-le-sub_left (sq_le {a = x} {b = z} h) (a * a))

reach_most : (a b x : ℕ) → reach a b x ≤ 4 * (b * b) * (a * a)
unfolding reach
reach_most a b x = mul-le-mul_left (4 * (b * b)) (sub-le (a * a) (x * x))

-- what is left of the whole, as a sum
pub reach_sum : (a b x : ℕ) → x ≤ a → reach a b x + 4 * (b * b) * (x * x) ≡ 4 * (b * b) * (a * a)
unfolding reach
reach_sum a b x h = omega (arith, mul-sub (4 * (b * b)) (a * a) (x * x), mul-le-mul_left (4 * (b * b)) (sq_le h))

-- so the nearest y is at most b
pub reach_below : (a b x : ℕ) → 1 ≤ a → reach a b x < edge (a * a) b
unfolding edge
reach_below a b x h = omega (arith, reach_most a b x, sq_le h)

pub at_most : (a b x y : ℕ) → 1 ≤ a → Least (a * a) (reach a b x) y → y ≤ b
at_most a b x y h n =
    elim (lt_or_ge b y) [ inl g ↦ absurd (omega (arith, n.low b g, reach_below a b x h)) | inr g ↦ g ]
