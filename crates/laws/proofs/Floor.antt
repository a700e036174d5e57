-- A quotient by a variable is never computed: it is the one number between two bounds.
use mathlib.Core.Path.{◌≡◌, sym}
use Prim.Native.Nat.{ℕ, ◌+◌, ◌*◌, ◌≤◌, ◌<◌, ◌/◌}
use native.Mathlib.Omega.{arith}
use native.Mathlib.Nat.{div-eq_of_lt-le, div-mul-le_self, lt-div-mul-add}

-- the two bounds make the quotient
pub div_is : (m d q : ℕ) → q * d ≤ m → m < (q + 1) * d → q ≡ m / d
div_is m d q h k = sym (div-eq_of_lt-le d h k)

-- the quotient is not too large
pub div_low : (m d : ℕ) → m / d * d ≤ m
div_low m d = div-mul-le_self m d

-- and not too small
pub div_high : (m d : ℕ) → 0 < d → m < (m / d + 1) * d
div_high m d p = omega (arith, lt-div-mul-add {a = m} {b = d} p)
