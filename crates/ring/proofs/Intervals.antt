-- Numbers that pass a test, with none left out between two that do, are an interval.
use Prim.Native.Nat.{ℕ, zero, suc, ◌+◌, ◌≤◌}
use mathlib.Core.Path.{sym, subst}
use mathlib.Core.Logic.{inl, inr}
use mathlib.Core.Bool.{Bool, ◌&&◌}
use native.Mathlib.Omega.{arith}
use lib.Dec.{T, leb, leb→le, le→leb}
use Rattle.laws.proofs.Products.{lt_or_ge}
use Rattle.laws.proofs.Tests.{and_l, and_r, and_i, holds_or_not, same}
use Rattle.ring.specs.Holes.{Interval}

module _ (test : ℕ → Bool) (filled : (i j k : ℕ) → T (test i) → T (test k) → i ≤ j → j ≤ k → T (test j)) where
  -- the least number that passes, sought downwards from one that does
  record Lowest : Type 0 where
    at : ℕ
    passes : T (test at)
    below : (k : ℕ) → T (test k) → at ≤ k

  lowest : (m : ℕ) → T (test m) → Lowest
  lowest zero t = record { at = 0; passes = t; below = λ k u. omega arith }
  lowest (suc m) t =
      elim (holds_or_not (test m)) [
        | inl u ↦ lowest m u
        | inr f ↦ record {
          at = suc m;
          passes = t;
          below = λ k u.
              elim (lt_or_ge k (suc m)) [ inl l ↦ absurd (f (filled k m (suc m) u t (omega arith) (omega arith))) | inr l ↦ l ];
        }
      ]

  -- and the greatest, sought upwards, at most n further
  record Highest : Type 0 where
    at : ℕ
    passes : T (test at)
    above : (k : ℕ) → T (test k) → k ≤ at

  highest : (n m : ℕ) → T (test m) → ((k : ℕ) → T (test k) → k ≤ m + n) → Highest
  highest zero m t most = record { at = m; passes = t; above = λ k u. omega (arith, most k u) }
  highest (suc n) m t most =
      elim (holds_or_not (test (suc m))) [
        | inl u ↦ highest n (suc m) u (λ k v. omega (arith, most k v))
        | inr f ↦ record {
          at = m;
          passes = t;
          above = λ k u.
              elim (lt_or_ge m k) [ inl l ↦ absurd (f (filled m (suc m) k t u (omega arith) (omega arith))) | inr l ↦ l ];
        }
      ]

  -- where there is one and they are not without end
  pub filled_interval : (m n : ℕ) → T (test m) → ((k : ℕ) → T (test k) → k ≤ m + n) → Interval test
  filled_interval m n t most =
      let l = lowest m t in
      let h = highest n m t most in
      record {
        least = l.at;
        most = h.at;
        some = l.below h.at h.passes;
        between = λ k.
            same (test k) (leb l.at k && leb k h.at)
            (λ u. and_i (leb l.at k) (leb k h.at) (le→leb l.at k (l.below k u)) (le→leb k h.at (h.above k u)))
            (λ u.
            filled l.at k h.at l.passes h.passes
            (leb→le l.at k (and_l (leb l.at k) (leb k h.at) u))
            (leb→le k h.at (and_r (leb l.at k) (leb k h.at) u)));
      }

-- what an interval says of its test, both ways
module _ {test : ℕ → Bool} (i : Interval test) where
  pub interval→ : (n : ℕ) → T (test n) → (i.least ≤ n) × (n ≤ i.most)
  interval→ n t =
      let u = subst T (i.between n) t in
      (leb→le i.least n (and_l (leb i.least n) (leb n i.most) u), leb→le n i.most (and_r (leb i.least n) (leb n i.most) u))

  pub →interval : (n : ℕ) → i.least ≤ n → n ≤ i.most → T (test n)
  →interval n l h =
      subst T (sym (i.between n)) (and_i (leb i.least n) (leb n i.most) (le→leb i.least n l) (le→leb n i.most h))
