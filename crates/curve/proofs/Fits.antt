-- The powers of two and the terms of a curve fit their type.
use Rattle.std.proofs.Common.{◌≡◌, ℕ, zero, suc, ◌+◌, ◌*◌, ◌%◌, ◌^◌, ◌≤◌, sym, ap, ◌∙◌, mod-eq_of_lt, arith, pow_mono, pow-add}
use native.Mathlib.Nat.{pow-zero, pow-succ'}

-- at most 64 pieces
pub pieces_low : (s : ℕ) → s ≤ 6 → 2 ^ s ≤ 64
pieces_low s l = pow_mono {i = s} {j = 6} l

pub pieces_is : (s : ℕ) → s ≤ 6 → 1 * 2 ^ s % 4294967296 ≡ 2 ^ s
pieces_is s l = let e : 1 * 2 ^ s ≡ 2 ^ s = omega arith in ap (λ (n : ℕ). n % 4294967296) e ∙ mod-eq_of_lt (omega (arith, pieces_low s l))

-- 2 × n^d, for n = 2^s
pub twice_power : (d s : ℕ) → 2 ^ (d * s + 1) ≡ 2 * (2 ^ s) ^ d
twice_power zero s = let e : 0 * s + 1 ≡ 1 = omega arith in ap (λ (k : ℕ). 2 ^ k) e ∙ ap (λ (k : ℕ). 2 * k) (sym (pow-zero (2 ^ s)))
twice_power (suc d) s =
    let e : suc d * s + 1 ≡ s + (d * s + 1) = omega arith in
    ap (λ (k : ℕ). 2 ^ k) e ∙ pow-add 2 s (d * s + 1) ∙ ap (λ (k : ℕ). 2 ^ s * k) (twice_power d s) ∙ last (2 ^ s) ((2 ^ s) ^ d) ∙ ap (λ (k : ℕ). 2 * k) (sym (pow-succ' (2 ^ s) d))
  where
    last : (n m : ℕ) → n * (2 * m) ≡ 2 * (n * m)
    last n m = omega arith
