-- The steps across, over plain numbers: within half a cell of the ideal, and never more than one at a time.
use Rattle.std.proofs.Common.{◌≡◌, ℕ, zero, suc, ◌+◌, ◌-◌, ◌*◌, ◌<◌, ◌≤◌, Bool, true, false, cond, ap, inl, inr, mul-le-mul_right, arith}
use Rattle.laws.proofs.Products.{lt_or_ge, mul_lt_back}
use Rattle.line.specs.Inner.Course.{gap}
use Rattle.line.specs.Rule.{rise}
use Rattle.line.proofs.Rise.{rise_low, rise_high, rise_none, rise_start, rise_short, rise_end}

-- within half a cell
rise_half : (L S n : ℕ) → n ≤ L → 2 * gap (rise L S n * L) (n * S) ≤ L
rise_half zero S n l = let e : n ≡ 0 = omega arith in rw e (omega arith)
rise_half (suc L) S n l = omega (arith, rise_low (suc L) S n, rise_high (suc L) S n (omega arith))

-- at most one more at the next cell
rise_grows : (L S n : ℕ) → S ≤ L → (rise L S n ≤ rise L S (n + 1)) × (rise L S (n + 1) ≤ rise L S n + 1)
rise_grows zero S n l = omega (arith, rise_none S n, rise_none S (n + 1))
rise_grows (suc L) S n l =
    let r = rise (suc L) S n in
    let q = rise (suc L) S (n + 1) in
    let h = mul_lt_back (2 * suc L) r (q + 1) (omega (arith, rise_low (suc L) S n, rise_high (suc L) S (n + 1) (omega arith))) in
    let k = mul_lt_back (2 * suc L) q (r + 2) (omega (arith, rise_low (suc L) S (n + 1), rise_high (suc L) S n (omega arith))) in
    omega arith

-- the same, counted from the first named end, which is the lesser or not
abbrev pub crossed : Bool → ℕ → ℕ → ℕ → ℕ
crossed first L S n = cond first (rise L S n) (S - rise L S (L - n))

pub crossed_half : (t : Bool) (L S n : ℕ) → S ≤ L → n ≤ L → 2 * gap (crossed t L S n * L) (n * S) ≤ L
crossed_half true L S n l h = rise_half L S n h
crossed_half false L S n l h =
    by (S - rise L S (L - n)) (rise L S (L - n)) (L - n) (omega (arith, rise_short L S (L - n) (omega arith))) (omega arith) (rise_half L S (L - n) (omega arith))
  where
    by : (m r k : ℕ) → m + r ≡ S → n + k ≡ L → 2 * gap (r * L) (k * S) ≤ L → 2 * gap (m * L) (n * S) ≤ L
    by m r k e f g = omega (arith, ap (λ (t : ℕ). t * L) e, ap (λ (t : ℕ). t * S) f)

pub crossed_first : (t : Bool) (L S : ℕ) → S ≤ L → crossed t L S 0 ≡ 0
crossed_first true L S l = rise_start L S
crossed_first false L S l = let e : L - 0 ≡ L = omega arith in omega (arith, ap (rise L S) e, rise_end L S l)

pub crossed_last : (t : Bool) (L S : ℕ) → S ≤ L → crossed t L S L ≡ S
crossed_last true L S l = rise_end L S l
crossed_last false L S l = let e : L - L ≡ 0 = omega arith in omega (arith, ap (rise L S) e, rise_start L S)

pub crossed_grows : (t : Bool) (L S n : ℕ) → S ≤ L → n < L → (crossed t L S n ≤ crossed t L S (n + 1)) × (crossed t L S (n + 1) ≤ crossed t L S n + 1)
crossed_grows true L S n l h = rise_grows L S n l
crossed_grows false L S n l h =
    let e : L - n ≡ L - (n + 1) + 1 = omega arith in
    omega (arith, rise_grows L S (L - (n + 1)) l, ap (rise L S) e, rise_short L S (L - n) (omega arith))

-- so never more than the steps along,
pub crossed_gentle : (t : Bool) (L S n d : ℕ) → S ≤ L → n + d ≤ L
    → (crossed t L S n ≤ crossed t L S (n + d)) × (crossed t L S (n + d) ≤ crossed t L S n + d)
crossed_gentle t L S n zero l h = let e : n + 0 ≡ n = omega arith in omega (arith, ap (crossed t L S) e)
crossed_gentle t L S n (suc d) l h =
    let e : n + suc d ≡ n + d + 1 = omega arith in
    omega (arith, ap (crossed t L S) e, crossed_gentle t L S n d l (omega arith), crossed_grows t L S (n + d) l (omega arith))

-- and just as many where the extents are equal
pub crossed_diagonal : (t : Bool) (L n : ℕ) → n ≤ L → crossed t L L n ≡ n
crossed_diagonal t L n h =
    let e : n + (L - n) ≡ L = omega arith in
    let f : 0 + n ≡ n = omega arith in
    omega (
      arith,
      crossed_first t L L (omega arith),
      crossed_last t L L (omega arith),
      crossed_gentle t L L 0 n (omega arith) (omega arith),
      ap (crossed t L L) f,
      crossed_gentle t L L n (L - n) (omega arith) (omega arith),
      ap (crossed t L L) e,
    )

-- within half a cell: none other is nearer. u − d is any whole number
pub half_nearest : (L N M u d : ℕ) → 2 * gap (M * L) N ≤ L → gap (M * L) N ≤ gap (u * L) (d * L + N)
half_nearest L N M u d h = elim (lt_or_ge u (d + M)) [
  | inl g ↦ omega (arith, mul-le-mul_right L g)
  | inr g ↦ elim (lt_or_ge (d + M) u) [
    | inl f ↦ omega (arith, mul-le-mul_right L f)
    | inr f ↦ let e : u ≡ d + M = omega arith in rw e (omega arith)
  ]
]
