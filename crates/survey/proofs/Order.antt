-- The order of a float and the whole numbers, as an order of natural numbers.
use mathlib.Core.Path.{◌≡◌, refl, ap, subst}
use mathlib.Core.Logic.{inl, inr}
use mathlib.Core.Bool.{Bool, true, false, not, ◌||◌}
use Prim.Native.Nat.{ℕ, suc, ◌+◌, ◌*◌, ◌^◌, ◌≤◌, ◌<◌}
use native.Mathlib.Nat.{le_of_lt, eq-or-lt_of_le, mul-le-mul_right, le_of_mul-le-mul_right}
use native.Mathlib.Omega.{arith}
use lib.Dec.{T, T_not, not_T, eqb, ltb→lt, lt→ltb, eqb→eq}
use lib.IntN.{ℤ, pos, negsuc, nat_abs}
use lib.Ieee.{Float, nan, inf, fin, binary64, prec, down, of_int, le, lt, below, level}
use lib.Ieee as ieee
use lib.Ieee.Fits.{down_pos}
use lib.Ieee.Exact.{HasValue}
use lib.Ieee.Back.{round_whole}
use lib.Ieee.Scale.{finite}
use Rattle.laws.proofs.Parts.{up, dn}
use Rattle.laws.proofs.Tests.{and_l, and_r, and_i, or_l, or_r, or_e, same, eqb_of}
use Rattle.laws.proofs.Products.{lt_or_ge}

-- what ±a is above zero, and what it is under zero
abbrev above : Bool → ℕ → ℕ
above true a = 0
above false a = a

abbrev under : Bool → ℕ → ℕ
under true a = a
under false a = 0

-- ±a < ±b, both ways
lt_to : (s : Bool) (a : ℕ) (t : Bool) (b : ℕ) → T (below s a t b) → above s a + under t b < above t b + under s a
lt_to false a false b h = omega (arith, ltb→lt)
lt_to false a true b h = absurd h
lt_to true a false b h = omega (arith, ltb→lt)
lt_to true a true b h = omega (arith, ltb→lt)

lt_of : (s : Bool) (a : ℕ) (t : Bool) (b : ℕ) → above s a + under t b < above t b + under s a → T (below s a t b)
lt_of false a false b h = lt→ltb a b (omega arith)
lt_of false a true b h = absurd (omega arith)
lt_of true a false b h = lt→ltb 0 (a + b) (omega arith)
lt_of true a true b h = lt→ltb b a (omega arith)

-- ±a = ±b, both ways
pub eq_to : (s : Bool) (a : ℕ) (t : Bool) (b : ℕ) → T (level s a t b) → above s a + under t b ≡ above t b + under s a
eq_to false a false b h = omega (arith, eqb→eq a b (and_l (eqb a b) true h))
eq_to false a true b h = omega (arith, eqb→eq a b (and_l (eqb a b) (eqb a 0) h), eqb→eq a 0 (and_r (eqb a b) (eqb a 0) h))
eq_to true a false b h = omega (arith, eqb→eq a b (and_l (eqb a b) (eqb a 0) h), eqb→eq a 0 (and_r (eqb a b) (eqb a 0) h))
eq_to true a true b h = omega (arith, eqb→eq a b (and_l (eqb a b) true h))

pub eq_of : (s : Bool) (a : ℕ) (t : Bool) (b : ℕ) → above s a + under t b ≡ above t b + under s a → T (level s a t b)
eq_of false a false b h = and_i (eqb a b) true (eqb_of a b (omega arith)) tt
eq_of false a true b h = and_i (eqb a b) (eqb a 0) (eqb_of a b (omega arith)) (eqb_of a 0 (omega arith))
eq_of true a false b h = and_i (eqb a b) (eqb a 0) (eqb_of a b (omega arith)) (eqb_of a 0 (omega arith))
eq_of true a true b h = and_i (eqb a b) true (eqb_of a b (omega arith)) tt

-- ±a ≤ ±b, both ways
le_to : (s : Bool) (a : ℕ) (t : Bool) (b : ℕ) → T (below s a t b || level s a t b) → above s a + under t b ≤ above t b + under s a
le_to s a t b h = elim (or_e (below s a t b) (level s a t b) h) [ inl u ↦ le_of_lt (lt_to s a t b u) | inr u ↦ omega (arith, eq_to s a t b u) ]

le_of : (s : Bool) (a : ℕ) (t : Bool) (b : ℕ) → above s a + under t b ≤ above t b + under s a → T (below s a t b || level s a t b)
le_of s a t b h = elim (eq-or-lt_of_le h) [
  | inl u ↦ or_r (below s a t b) (level s a t b) (eq_of s a t b u)
  | inr u ↦ or_l (below s a t b) (level s a t b) (lt_of s a t b u)
]

-- ±b < ±a exactly where ±a ≤ ±b fails
lt_not_le : (s : Bool) (a : ℕ) (t : Bool) (b : ℕ) → below t b s a ≡ not (below s a t b || level s a t b)
lt_not_le s a t b =
    same (below t b s a) (not (below s a t b || level s a t b))
    (λ p. not_T (below s a t b || level s a t b) (λ q. omega (arith, lt_to t b s a p, le_to s a t b q)))
    (λ p. elim (lt_or_ge (above t b + under s a) (above s a + under t b)) [
      | inl u ↦ lt_of t b s a u
      | inr u ↦ absurd (T_not (below s a t b || level s a t b) p (le_of s a t b u))
    ])

-- a common factor
scaled : (s : Bool) (n : ℕ) (t : Bool) (b d c : ℕ) → above s (n * d * c) + under t (b * c) ≡ (above s n * d + under t b) * c
scaled false n false b d c = omega arith
scaled false n true b d c = omega arith
scaled true n false b d c = omega arith
scaled true n true b d c = omega arith

scaled_other : (s : Bool) (n : ℕ) (t : Bool) (b d c : ℕ) → above t (b * c) + under s (n * d * c) ≡ (above t b + under s n * d) * c
scaled_other false n false b d c = omega arith
scaled_other false n true b d c = omega arith
scaled_other true n false b d c = omega arith
scaled_other true n true b d c = omega arith

-- the float x is the whole number ±n, and it is compared with a finite float
module _ (t : Bool) (m : ℕ) (e : ℤ) (n : ℕ) where
  whole_le : (x : Float) (s : Bool) → HasValue x s n 1 → T (le x (fin t m e))
      → above s n * down e + under t (m * ieee.up e) ≤ above t (m * ieee.up e) + under s n * down e
  unfolding le
  whole_le nan s v h = absurd v
  whole_le (inf r) s v h = absurd v
  whole_le (fin r k d) s v h =
      let c : k * ieee.up d * down e ≡ n * down e * down d = omega (arith, ap (λ (z : ℕ). z * down e) v.1) in
      let g = le_to s (n * down e * down d) t (m * ieee.up e * down d) (rw (c, v.0) at h) in
      le_of_mul-le-mul_right (rw (scaled s n t (m * ieee.up e) (down e) (down d), scaled_other) at g) (down_pos d)

  whole_le_of : (x : Float) (s : Bool) → HasValue x s n 1 → above s n * down e + under t (m * ieee.up e) ≤ above t (m * ieee.up e) + under s n * down e
      → T (le x (fin t m e))
  unfolding le
  whole_le_of nan s v h = absurd v
  whole_le_of (inf r) s v h = absurd v
  whole_le_of (fin r k d) s v h =
      let c : k * ieee.up d * down e ≡ n * down e * down d = omega (arith, ap (λ (z : ℕ). z * down e) v.1) in
      rw (v.0, c) (le_of s (n * down e * down d) t (m * ieee.up e * down d) (rw (scaled s n t (m * ieee.up e) (down e) (down d), scaled_other) (mul-le-mul_right (down d) h)))

-- the float of a whole number of at most 53 bits is that number
abbrev pub Small : ℤ → Type 0
Small k = nat_abs k ≤ 2 ^ prec binary64

module _ (t : Bool) (m : ℕ) (e : ℤ) where
  le_float : (k : ℤ) → Small k → T (le (of_int binary64 k) (fin t m e)) → up k * down e + under t (m * ieee.up e) ≤ above t (m * ieee.up e) + dn k * down e
  unfolding of_int
  le_float (pos n) l h = whole_le t m e n (of_int binary64 (pos n)) false (round_whole binary64 false n l) h
  le_float (negsuc n) l h = whole_le t m e (suc n) (of_int binary64 (negsuc n)) true (round_whole binary64 true (suc n) l) h

  le_float_of : (k : ℤ) → Small k → up k * down e + under t (m * ieee.up e) ≤ above t (m * ieee.up e) + dn k * down e → T (le (of_int binary64 k) (fin t m e))
  unfolding of_int
  le_float_of (pos n) l h = whole_le_of t m e n (of_int binary64 (pos n)) false (round_whole binary64 false n l) h
  le_float_of (negsuc n) l h = whole_le_of t m e (suc n) (of_int binary64 (negsuc n)) true (round_whole binary64 true (suc n) l) h

-- and it is finite
valued_finite : (x : Float) (s : Bool) (n : ℕ) → HasValue x s n 1 → T (finite x)
valued_finite nan s n v = v
valued_finite (inf r) s n v = v
valued_finite (fin r k d) s n v = tt

float_finite : (k : ℤ) → Small k → T (finite (of_int binary64 k))
unfolding of_int
float_finite (pos n) l = valued_finite (of_int binary64 (pos n)) false n (round_whole binary64 false n l)
float_finite (negsuc n) l = valued_finite (of_int binary64 (negsuc n)) true (suc n) (round_whole binary64 true (suc n) l)

-- nothing is at most NaN, and what is finite is at most one of the infinities
pub le_nan : (x : Float) → le x nan ≡ false
unfolding le
le_nan nan = refl
le_nan (inf s) = refl
le_nan (fin s m e) = refl

le-inf : (x : Float) (s : Bool) → T (finite x) → le x (inf s) ≡ not s
unfolding le
le-inf nan s f = absurd f
le-inf (inf r) s f = absurd f
le-inf (fin r m e) true f = refl
le-inf (fin r m e) false f = refl

-- a float that a whole number is at most, no lower one is above
pub le_lower : (j k : ℤ) (q : Float) → Small j → Small k → up j + dn k ≤ up k + dn j → T (le (of_int binary64 k) q) → T (le (of_int binary64 j) q)
le_lower j k nan a b h t = absurd (subst T (le_nan (of_int binary64 k)) t)
le_lower j k (inf s) a b h t = rw (le-inf (of_int binary64 j) s (float_finite j a)) (rw (le-inf (of_int binary64 k) s (float_finite k b)) at t)
le_lower j k (fin s m e) a b h t = le_float_of s m e j a (omega (arith, mul-le-mul_right (down e) h, le_float s m e k b t))

-- a float that some whole number is at most is below another exactly where that one is not at most it
finite_lt : (x q y : Float) → T (finite x) → T (le y q) → lt q x ≡ not (le x q)
unfolding le lt
finite_lt nan q y f t = absurd f
finite_lt (inf r) q y f t = absurd f
finite_lt (fin r k d) nan y f t = absurd (subst T (le_nan y) t)
finite_lt (fin r k d) (inf true) y f t = refl
finite_lt (fin r k d) (inf false) y f t = refl
finite_lt (fin r k d) (fin s m e) y f t = lt_not_le r (k * ieee.up d * down e) s (m * ieee.up e * down d)

pub lt_not : (i k : ℤ) (q : Float) → Small k → T (le (of_int binary64 i) q) → lt q (of_int binary64 k) ≡ not (le (of_int binary64 k) q)
lt_not i k q a t = finite_lt (of_int binary64 k) q (of_int binary64 i) (float_finite k a) t
