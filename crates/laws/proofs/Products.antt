-- What `omega` lacks where a statement is not linear: a fact times a factor, squares, a case. It multiplies products out by itself.
use mathlib.Core.Logic.{◌⊎◌, inl, inr}
use Prim.Native.Nat.{ℕ, ◌*◌, ◌≤◌, ◌<◌}
use native.Mathlib.Omega.{arith}
use native.Mathlib.Decide.{dec_lt}
use native.Mathlib.Nat.{mul-le-mul, mul-le-mul_left}

-- one of two orders holds
pub lt_or_ge : (a b : ℕ) → (a < b) ⊎ (b ≤ a)
lt_or_ge a b = elim (dec_lt a b) [ yes h ↦ inl h | no f ↦ inr (omega arith) ]

-- a larger number has the larger square
pub sq_le : {a b : ℕ} → a ≤ b → a * a ≤ b * b
sq_le h = mul-le-mul h h

-- and the larger square is that of the larger number
pub sq_lt_back : (a b : ℕ) → a * a < b * b → a < b
sq_lt_back a b h = elim (lt_or_ge a b) [ inl g ↦ g | inr g ↦ absurd (let k = sq_le g in omega arith) ]

-- a common factor taken off
pub mul_lt_back : (k a b : ℕ) → k * a < k * b → a < b
mul_lt_back k a b h = elim (lt_or_ge a b) [ inl g ↦ g | inr g ↦ absurd (let m = mul-le-mul_left k g in omega arith) ]
