-- The steps across, floor((2nS + L) / (2L)): the floor's two bounds, and that they are no more than n nor than S.
use Rattle.std.proofs.Common.{◌≡◌, ℕ, zero, suc, ◌+◌, ◌-◌, ◌*◌, ◌/◌, ◌<◌, ◌≤◌, Bool, true, false, cond, sym, refl, ap, ◌∙◌, mul-le-mul_right, div-lt_iff_lt-mul, mul-le-mul_left, arith}
use native.Mathlib.Nat.{div-eq_of_lt, div-zero}
use Rattle.laws.proofs.Floor.{div_is, div_low, div_high}
use Rattle.line.specs.Rule.{rise}

-- the floor's two bounds
pub rise_low : (L S n : ℕ) → rise L S n * (2 * L) ≤ 2 * (n * S) + L
unfolding rise
rise_low L S n = div_low (2 * (n * S) + L) (2 * L)

pub rise_high : (L S n : ℕ) → 0 < L → 2 * (n * S) + L < (rise L S n + 1) * (2 * L)
unfolding rise
rise_high L S n p = div_high (2 * (n * S) + L) (2 * L) (omega arith)

-- a line of one cell has no steps
pub rise_none : (S n : ℕ) → rise 0 S n ≡ 0
unfolding rise
rise_none S n = div-zero (2 * (n * S) + 0)

-- and no line at its start
half : (m : ℕ) → m / (2 * m) ≡ 0
half zero = refl
half (suc m) = div-eq_of_lt (omega arith)

pub rise_start : (L S : ℕ) → rise L S 0 ≡ 0
unfolding rise
rise_start L S = let e : 2 * (0 * S) + L ≡ L = omega arith in ap (λ (m : ℕ). m / (2 * L)) e ∙ half L

-- no more steps than those along the longer extent
pub rise_le : (L S n : ℕ) → S ≤ L → rise L S n ≤ n
unfolding rise
rise_le zero S n l = omega (arith, rise_none S n)
rise_le (suc L) S n l =
    let h : (2 * (n * S) + suc L) / (2 * suc L) < n + 1 = (div-lt_iff_lt-mul {k = 2 * suc L} {x = 2 * (n * S) + suc L} {y = n + 1} (omega arith)).1 (omega (arith, mul-le-mul_left n l)) in
    omega arith

-- nor than the shorter extent has
pub rise_short : (L S n : ℕ) → n ≤ L → rise L S n ≤ S
unfolding rise
rise_short zero S n l = omega (arith, rise_none S n)
rise_short (suc L) S n l =
    let h : (2 * (n * S) + suc L) / (2 * suc L) < S + 1 = (div-lt_iff_lt-mul {k = 2 * suc L} {x = 2 * (n * S) + suc L} {y = S + 1} (omega arith)).1 (omega (arith, mul-le-mul_right S l)) in
    omega arith

-- and at the end as many
pub rise_end : (L S : ℕ) → S ≤ L → rise L S L ≡ S
unfolding rise
rise_end zero S l = omega (arith, rise_none S 0)
rise_end (suc L) S l = sym (div_is (2 * (suc L * S) + suc L) (2 * suc L) S (omega arith) (omega arith))

-- n counted from either end is a number of the line
pub from_either : (t : Bool) (n L : ℕ) → n ≤ L → cond t n (L - n) ≤ L
from_either true n L l = l
from_either false n L l = omega arith
