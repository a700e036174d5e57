-- The least y with N < A(2y + 1)²: there is one, one only, and it does not rise where N falls.
use Prim.Native.Nat.{ℕ, zero, suc, ◌+◌, ◌-◌, ◌*◌, ◌≤◌, ◌<◌}
use mathlib.Core.Path.{◌≡◌}
use mathlib.Core.Logic.{inl, inr}
use native.Mathlib.Omega.{arith}
use native.Mathlib.Nat.{mul-le-mul_left}
use Rattle.laws.proofs.Products.{lt_or_ge, sq_le}

-- A(2y + 1)²
unfoldable pub edge : ℕ → ℕ → ℕ
edge A y = A * ((2 * y + 1) * (2 * y + 1))

-- y is the least number with N < A(2y + 1)²
pub record Least (A N y : ℕ) : Type 0 where
  pub low : (k : ℕ) → k < y → edge A k ≤ N
  pub high : N < edge A y

pub edge_up : (A k y : ℕ) → k ≤ y → edge A k ≤ edge A y
unfolding edge
edge_up A k y h = mul-le-mul_left A (sq_le {a = 2 * k + 1} {b = 2 * y + 1} (omega arith))

-- there is one, at most as great as any number that is not too small
pub least_is : (A N m : ℕ) → N < edge A m → (y : ℕ) × Least A N y × (y ≤ m)
least_is A N zero h = (0, record { low = λ k l. absurd (omega arith); high = h }, omega arith)
least_is A N (suc m) h =
    elim (lt_or_ge N (edge A m)) [
      | inl g ↦ let e = least_is A N m g in (e.0, e.1, omega arith)
      | inr g ↦ (suc m, record { low = λ k l. omega (arith, edge_up A k m (omega arith)); high = h }, omega arith)
    ]

-- it does not rise where N falls
pub least_falls : (A M N y z : ℕ) → M ≤ N → Least A M y → Least A N z → y ≤ z
least_falls A M N y z h p q =
    elim (lt_or_ge z y) [ inl g ↦ absurd (omega (arith, p.low z g, q.high)) | inr g ↦ g ]

-- there is one only
pub least_one : (A N y z : ℕ) → Least A N y → Least A N z → y ≡ z
least_one A N y z p q = omega (arith, least_falls A N N y z (omega arith) p q, least_falls A N N z y (omega arith) q p)

-- the one before is too small, or there is none before
pub least_after : (A N y : ℕ) → 0 < y → edge A (y - 1) ≤ N → N < edge A y → Least A N y
least_after A N y h l g = record { low = λ k m. omega (arith, edge_up A k (y - 1) (omega arith)); high = g }

pub least_zero : (A N y : ℕ) → y ≤ 0 → N < edge A y → Least A N y
least_zero A N y h g = record { low = λ k m. absurd (omega arith); high = g }
