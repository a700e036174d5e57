-- The laws of `any` and `count`.
use Prim.Native.Nat.{ℕ, zero, suc, ◌+◌, ◌≤◌, ◌<◌}
use mathlib.Core.Path.{◌≡◌, refl, subst, ap, ap₂, ◌∙◌}
use mathlib.Core.Logic.{⊎_elim}
use mathlib.Core.Bool.{Bool, true, false, cond, ◌||◌, or-false}
use native.Mathlib.Omega.{arith}
use native.Mathlib.Nat.{add-zero, add-suc}
use native.Mathlib.Numerals.{add-one}
use native.Mathlib.Decide.{dec_le}
use borrow.Author.Tests.{eqb-true, eqb-false, ne_eqb}
use lib.Dec.{T, eqb}
use Rattle.laws.specs.Below.{any, count}
use Rattle.laws.proofs.Tests.{or_l, or_r, or_e}

-- one number more
pub any_more : (n : ℕ) (test : ℕ → Bool) → any (n + 1) test ≡ (any n test || test n)
unfolding any
any_more n test = rw add-one

-- tests that agree below n
pub any_as : (n : ℕ) (f g : ℕ → Bool) → ((i : ℕ) → i < n → f i ≡ g i) → any n f ≡ any n g
unfolding any
any_as zero f g h = refl
any_as (suc n) f g h = ap₂ ◌||◌ (any_as n f g (λ i l. h i (omega arith))) (h n (omega arith))

pub count_as : (n : ℕ) (f g : ℕ → Bool) → ((i : ℕ) → i < n → f i ≡ g i) → count n f ≡ count n g
unfolding count
count_as zero f g h = refl
count_as (suc n) f g h = ap₂ ◌+◌ (count_as n f g (λ i l. h i (omega arith))) (ap (λ (t : Bool). cond t 1 0) (h n (omega arith)))

-- one passes
pub any_at : (n : ℕ) (test : ℕ → Bool) (i : ℕ) → i < n → T (test i) → T (any n test)
unfolding any
any_at zero test i l t = absurd (omega arith)
any_at (suc n) test i l t = by (λ m. any_at n test i m t) (eqb i n) refl
  where
    by : (i < n → T (any n test)) → (b : Bool) → eqb i n ≡ b → T (any n test || test n)
    by f true e = or_r (any n test) (test n) (subst (λ (j : ℕ). T (test j)) (eqb-true i n e) t)
    by f false e = or_l (any n test) (test n) (f (omega (arith, eqb-false i n e)))

-- the one that passes
pub record Found (n : ℕ) (test : ℕ → Bool) : Type 0 where
  pub at : ℕ
  pub below : at < n
  pub passes : T (test at)

pub any→ : (n : ℕ) (test : ℕ → Bool) → T (any n test) → Found n test
unfolding any
any→ zero test t = absurd t
any→ (suc n) test t =
    ⊎_elim
    (λ (u : T (any n test)). let f = any→ n test u in record { at = f.at; below = omega (arith, f.below); passes = f.passes })
    (λ (u : T (test n)). record { at = n; below = omega arith; passes = u })
    (or_e (any n test) (test n) t)

-- none passes
pub count_none : (n : ℕ) (test : ℕ → Bool) → ((i : ℕ) → i < n → test i ≡ false) → count n test ≡ 0
unfolding count
count_none zero test h = refl
count_none (suc n) test h = rw (h n (omega arith)) (omega (arith, count_none n test (λ i l. h i (omega arith))))

-- no more pass than there are
pub count_most : (n : ℕ) (test : ℕ → Bool) → count n test ≤ n
unfolding count
count_most zero test = omega arith
count_most (suc n) test = by (test n) (count_most n test)
  where
    by : (t : Bool) → count n test ≤ n → count n test + cond t 1 0 ≤ suc n
    by true h = omega arith
    by false h = omega arith

-- those below m, and the n from m on
pub count_add : (m n : ℕ) (test : ℕ → Bool) → count (m + n) test ≡ count m test + count n (λ (i : ℕ). test (m + i))
unfolding count
count_add m zero test = rw (add-zero m) (omega arith)
count_add m (suc n) test = rw (add-suc m n) (omega (arith, count_add m n test))

-- one number more passes
pub count_more : (n : ℕ) (test : ℕ → Bool) (at : ℕ) → at < n → test at ≡ false → count n (λ (i : ℕ). test i || eqb i at) ≡ count n test + 1
unfolding count
count_more zero test at l e = absurd (omega arith)
count_more (suc n) test at l e = by (λ m. count_more n test at m e) (eqb n at) refl
  where
    by : (at < n → count n (λ (i : ℕ). test i || eqb i at) ≡ count n test + 1) → (b : Bool) → eqb n at ≡ b
        → count n (λ (i : ℕ). test i || eqb i at) + cond (test n || eqb n at) 1 0 ≡ count n test + cond (test n) 1 0 + 1
    by f true p =
        let q : n ≡ at = eqb-true n at p in
        let u : test n ≡ false = ap test q ∙ e in
        let v = count_as n (λ (i : ℕ). test i || eqb i at) test (λ i m. ap (λ (b : Bool). test i || b) (ne_eqb i at (λ r. omega arith)) ∙ or-false (test i)) in
        simp (p, u) (omega arith)
    by f false p =
        let v = f (omega (arith, eqb-false n at p)) in
        simp (p, or-false (test n)) (omega arith)

-- tests that agree but from l to before r, where the numbers pass the one and not the other
pub count_range : (n l r : ℕ) (f g : ℕ → Bool) → l ≤ r → r ≤ n → ((i : ℕ) → i < n → ((l ≤ i) × (i < r) → ⊥) → f i ≡ g i)
    → ((i : ℕ) → l ≤ i → i < r → f i ≡ true) → ((i : ℕ) → l ≤ i → i < r → g i ≡ false) → count n f + l ≡ count n g + r
unfolding count
count_range zero l r f g u v h p q = omega arith
count_range (suc n) l r f g u v h p q =
    by
    (λ a. count_range n l r f g u a (λ i m. h i (omega arith)) p q)
    (λ d e. count_range n l n f g d (omega arith) (λ i m o. h i (omega arith) (λ z. o (z.0, m))) (λ i a m. p i a (omega arith)) (λ i a m. q i a (omega arith)))
    (dec_le r n) (dec_le l n)
  where
    by : (r ≤ n → count n f + l ≡ count n g + r) → (l ≤ n → r ≡ suc n → count n f + l ≡ count n g + n) → Dec (r ≤ n) → Dec (l ≤ n)
        → count n f + cond (f n) 1 0 + l ≡ count n g + cond (g n) 1 0 + r
    by before last (yes a) d = rw (h n (omega arith) (λ z. omega arith)) (omega (arith, before a))
    by before last (no a) (yes d) =
        let e : r ≡ suc n = omega arith in
        simp (p n d (omega arith), q n d (omega arith)) (omega (arith, last d e))
    by before last (no a) (no d) =
        rw (h n (omega arith) (λ z. omega arith)) (omega (arith, count_as n f g (λ i m. h i (omega arith) (λ z. omega arith))))

-- numbers of which those that pass one test and those that pass another are together those that pass a third
pub count_sum : (n : ℕ) (f g h : ℕ → Bool) → ((i : ℕ) → cond (f i) 1 0 + cond (g i) 1 0 ≡ cond (h i) 1 0) → count n f + count n g ≡ count n h
unfolding count
count_sum zero f g h e = refl
count_sum (suc n) f g h e = omega (arith, count_sum n f g h e, e n)
