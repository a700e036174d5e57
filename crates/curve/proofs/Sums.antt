-- The terms of three and of four control values come, at each i, to what a coordinate of the ith point is divided from.
use Rattle.std.proofs.Common.{◌≡◌, ℕ, ◌+◌, ◌-◌, ◌*◌, ◌/◌, ◌^◌, ◌<◌, ◌≤◌, List, [], ◌∷◌, map, length, get_or, sym, ap, ◌∙◌, subst, mul-le-mul, arith, pow_pos}
use native.Mathlib.Nat.{pow-zero, pow-succ'}
use lib.ListN.{length-map}
use Rattle.sheet.specs.Inner.{Moved, unmoved}
use Rattle.curve.specs.Inner.{sum_at, Small, shift_of, Joint, Gives}
use Rattle.curve.specs.declared.Powers.{Powers}
use Rattle.curve.specs.declared.Terms.{Terms}
use Rattle.curve.proofs.Blend.{weigh_three, weigh_four, blend_three, blend_four}
use Rattle.curve.proofs.Fits.{twice_power}
use Rattle.curve.proofs.Points.{twice_at, coordinate_moved}

abbrev powers : ℕ → ℕ → ℕ → Powers
powers a b c = record { one = a; two = b; three = c }

-- the terms as the code writes them
abbrev pub quadratic_terms : ℕ → ℕ → ℕ → ℕ → Terms
quadratic_terms p q r n =
    record { start = (2 * p + 1) * (n * n); gains = powers (4 * (n * q)) (2 * (p + r)) 0; losses = powers (4 * (n * p)) (4 * q) 0 }

abbrev pub cubic_terms : ℕ → ℕ → ℕ → ℕ → ℕ → Terms
cubic_terms p q r t n =
    record {
      start = (2 * p + 1) * (n * n * n);
      gains = powers (6 * (n * n * q)) (6 * (n * (p + r))) (2 * (3 * q + t));
      losses = powers (6 * (n * n * p)) (12 * (n * q)) (2 * (p + 3 * r));
    }

-- small terms that come to twice the blend and the half, at each i, give the coordinate
abbrev Made : List ℕ → ℕ → Terms → ℕ → Type 0
Made qs n t i = t.start + sum_at t.gains i ≡ sum_at t.losses i + twice_at qs n i

gives_of : (qs : List ℕ) → 0 < length qs → (s n : ℕ) (t : Terms) → n ≡ 2 ^ s → Small t → ((i : ℕ) → i ≤ n → Made qs n t i) → Gives (map unmoved qs) s t
gives_of qs some s n t e small made = record { small = small; joint = λ i l. joint i l (subst (λ (n : ℕ). Made qs n t i) e (made i (omega arith))) }
  where
    joint : (i : ℕ) → i ≤ 2 ^ s → Made qs (2 ^ s) t i → Joint (map unmoved qs) s i t
    joint i l m =
        let d = ap (λ (k : ℕ). 2 ^ shift_of k s) (length-map qs unmoved) ∙ twice_power (length qs - 1) s in
        record {
          value = twice_at qs (2 ^ s) i;
          made = m;
          stands = ap (λ (k : ℕ). unmoved (twice_at qs (2 ^ s) i / k)) d ∙ sym (coordinate_moved qs (2 ^ s) i some (pow_pos s) l);
        }

-- n² and n³
square : (n : ℕ) → n ^ 2 ≡ n * n
square n = pow-succ' n 1 ∙ ap (λ (t : ℕ). n * t) (pow-succ' n 0 ∙ ap (λ (t : ℕ). n * t) (pow-zero n)) ∙ omega arith

cube : (n : ℕ) → n ^ 3 ≡ n * n * n
cube n = pow-succ' n 2 ∙ ap (λ (t : ℕ). n * t) (square n) ∙ omega arith

-- both formulas by powers of i, with k for n − i
by_two : (k i p q r : ℕ) → let n = k + i in
    (2 * p + 1) * (n * n) + (4 * (n * q) * i + 2 * (p + r) * (i * i) + 0 * (i * i * i))
    ≡ 4 * (n * p) * i + 4 * q * (i * i) + 0 * (i * i * i) + (2 * weigh_three k i p q r + n * n)
by_two k i p q r = omega arith

-- of a cubic, what each control value brings
first_value : (k i p : ℕ) → let n = k + i in 2 * p * (n * n * n) + 6 * (n * p) * (i * i) ≡ 6 * (n * n * p) * i + 2 * p * (i * i * i) + 2 * (k * k * k * p)
first_value k i p = omega arith

second_value : (k i q : ℕ) → let n = k + i in 6 * (n * n * q) * i + 2 * (3 * q) * (i * i * i) ≡ 12 * (n * q) * (i * i) + 2 * (3 * (i * (k * k)) * q)
second_value k i q = omega arith

third_value : (k i r : ℕ) → let n = k + i in 6 * (n * r) * (i * i) ≡ 2 * (3 * r) * (i * i * i) + 2 * (3 * (i * i * k) * r)
third_value k i r = omega arith

by_three : (k i p q r t : ℕ) → let n = k + i in
    (2 * p + 1) * (n * n * n) + (6 * (n * n * q) * i + 6 * (n * (p + r)) * (i * i) + 2 * (3 * q + t) * (i * i * i))
    ≡ 6 * (n * n * p) * i + 12 * (n * q) * (i * i) + 2 * (p + 3 * r) * (i * i * i)
    + (2 * weigh_four k i p q r t + n * n * n)
by_three k i p q r t = together (k + i) (i * i) (i * i * i) p q r t _ _ _ (first_value k i p) (second_value k i q) (third_value k i r)
  where
    together : (n ii iii p q r t x y z : ℕ)
        → 2 * p * (n * n * n) + 6 * (n * p) * ii ≡ 6 * (n * n * p) * i + 2 * p * iii + 2 * x
        → 6 * (n * n * q) * i + 2 * (3 * q) * iii ≡ 12 * (n * q) * ii + 2 * y
        → 6 * (n * r) * ii ≡ 2 * (3 * r) * iii + 2 * z
        → (2 * p + 1) * (n * n * n) + (6 * (n * n * q) * i + 6 * (n * (p + r)) * ii + 2 * (3 * q + t) * iii)
        ≡ 6 * (n * n * p) * i + 12 * (n * q) * ii + 2 * (p + 3 * r) * iii + (2 * (x + y + z + iii * t) + n * n * n)
    together n ii iii p q r t x y z e f g = omega arith

-- what the terms come to, at each i
three_made : (p q r n i : ℕ) → i ≤ n → Made (p ∷ q ∷ r ∷ []) n (quadratic_terms p q r n) i
three_made p q r n i l =
    let e : n - i + i ≡ n = omega arith in
    let b = blend_three n i (λ (j : ℕ). get_or (p ∷ q ∷ r ∷ []) j 0) in
    let z = square n in
    subst
    (λ (m : ℕ). let t = quadratic_terms p q r m in t.start + sum_at t.gains i ≡ sum_at t.losses i + (2 * weigh_three (n - i) i p q r + m * m))
    e (by_two (n - i) i p q r)
    ∙ (λ j. sum_at (quadratic_terms p q r n).losses i + (2 * sym b j + sym z j))

four_made : (p q r t n i : ℕ) → i ≤ n → Made (p ∷ q ∷ r ∷ t ∷ []) n (cubic_terms p q r t n) i
four_made p q r t n i l =
    let e : n - i + i ≡ n = omega arith in
    let b = blend_four n i (λ (j : ℕ). get_or (p ∷ q ∷ r ∷ t ∷ []) j 0) in
    let z = cube n in
    subst
    (λ (m : ℕ). let w = cubic_terms p q r t m in w.start + sum_at w.gains i ≡ sum_at w.losses i + (2 * weigh_four (n - i) i p q r t + m * m * m))
    e (by_three (n - i) i p q r t)
    ∙ (λ j. sum_at (cubic_terms p q r t n).losses i + (2 * sym b j + sym z j))

-- the numbers of both are small, also while they are made
below : (a b c d : ℕ) → a ≤ c → b ≤ d → a * b ≤ c * d
below a b c d l m = mul-le-mul {n₁ = a} {m₁ = b} {n₂ = c} {m₂ = d} l m

pub record Products (n p q r : ℕ) : Type 0 where
  pub nn : n * n ≤ 4096
  pub nnn : n * n * n ≤ 262144
  pub two_p : (2 * p + 1) * (n * n) ≤ 671084544
  pub three_p : (2 * p + 1) * (n * n * n) ≤ 42949410816
  pub np : n * p ≤ 5242816
  pub nq : n * q ≤ 5242816
  pub npr : n * (p + r) ≤ 10485632
  pub nnp : n * n * p ≤ 335540224
  pub nnq : n * n * q ≤ 335540224

pub products : (n p q r : ℕ) → n ≤ 64 → Moved p → Moved q → Moved r → Products n p q r
products n p q r l a b c =
    let nn = below n n 64 64 l l in
    let nnn = below (n * n) n 4096 64 nn l in
    record {
      nn = nn;
      nnn = nnn;
      two_p = below (2 * p + 1) (n * n) 163839 4096 (omega (arith, a.most)) nn;
      three_p = below (2 * p + 1) (n * n * n) 163839 262144 (omega (arith, a.most)) nnn;
      np = below n p 64 81919 l a.most;
      nq = below n q 64 81919 l b.most;
      npr = below n (p + r) 64 163838 l (omega (arith, a.most, c.most));
      nnp = below (n * n) p 4096 81919 nn a.most;
      nnq = below (n * n) q 4096 81919 nn b.most;
    }

-- so both give the coordinate
pub three_give : (p q r s n : ℕ) → Moved p → Moved q → Moved r → n ≡ 2 ^ s → n ≤ 64 → Gives (unmoved p ∷ unmoved q ∷ unmoved r ∷ []) s (quadratic_terms p q r n)
three_give p q r s n a b c e l =
    let z = products n p q r l a b c in
    let pm = a.most in
    let qm = b.most in
    let rm = c.most in
    gives_of (p ∷ q ∷ r ∷ []) (omega arith) s n (quadratic_terms p q r n) e
    (record {
      start_low = omega (arith, z.two_p);
      gains_low = record { one_low = omega (arith, z.nq); two_low = omega arith; three_low = omega arith };
      losses_low = record { one_low = omega (arith, z.np); two_low = omega arith; three_low = omega arith };
    })
    (three_made p q r n)

pub four_give : (p q r t s n : ℕ) → Moved p → Moved q → Moved r → Moved t → n ≡ 2 ^ s → n ≤ 64 → Gives (unmoved p ∷ unmoved q ∷ unmoved r ∷ unmoved t ∷ []) s (cubic_terms p q r t n)
four_give p q r t s n a b c d e l =
    let z = products n p q r l a b c in
    let pm = a.most in
    let qm = b.most in
    let rm = c.most in
    let tm = d.most in
    gives_of (p ∷ q ∷ r ∷ t ∷ []) (omega arith) s n (cubic_terms p q r t n) e
    (record {
      start_low = omega (arith, z.three_p);
      gains_low = record { one_low = omega (arith, z.nnq); two_low = omega (arith, z.npr); three_low = omega arith };
      losses_low = record { one_low = omega (arith, z.nnp); two_low = omega (arith, z.nq); three_low = omega arith };
    })
    (four_made p q r t n)
