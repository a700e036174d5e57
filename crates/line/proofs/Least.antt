-- A bound on the shorter extent's steps is a bound on n: k ≤ rise L S n just where (2k − 1)L ≤ 2nS.
use Rattle.std.proofs.Common.{◌≡◌, ℕ, ◌+◌, ◌*◌, ◌/◌, ◌<◌, ◌≤◌, ap, mul-le-mul_right, div-lt_iff_lt-mul, le-div_iff_mul-le, arith}
use Rattle.line.specs.Rule.{rise}
use Rattle.line.specs.Inner.Span.{FirstAt}
use Rattle.line.proofs.Rise.{rise_short}

module _ (l s n k : ℕ) (p : 0 < l) where
  rise_from : 2 * (k * l) ≤ 2 * (n * s) + l → k ≤ rise l s n
  unfolding rise
  rise_from h = (le-div_iff_mul-le {k = 2 * l} {x = k} {y = 2 * (n * s) + l} (omega arith)).1 (omega arith)

  rise_until : 2 * (n * s) + l < 2 * (k * l) → rise l s n < k
  unfolding rise
  rise_until h = (div-lt_iff_lt-mul {k = 2 * l} {x = 2 * (n * s) + l} {y = k} (omega arith)).1 (omega arith)

module _ (k l s : ℕ) where
  -- no n has come so far
  pub least_none : s < k → FirstAt k l s (l + 1)
  least_none h =
      record {
        low = omega arith;
        from = λ n a b. absurd (omega arith);
        until = λ n a b. omega (arith, rise_short l s n a);
      }

  -- (2k − 1)L over 2S, rounded up, with p = 2k − 1 and d = 2S − 1
  module _ (small : s ≤ l) (p d : ℕ) (ep : p + 1 ≡ 2 * k) (ed : d + 1 ≡ 2 * s) (h : k ≤ s) where
    twice : p * l + l ≡ 2 * (k * l)
    twice = omega (arith, ap (λ (z : ℕ). z * l) ep)

    pub least_some : FirstAt k l s ((p * l + d) / (2 * s))
    least_some =
        record {
          low = let u : (p * l + d) / (2 * s) < l + 2 = (div-lt_iff_lt-mul {k = 2 * s} {x = p * l + d} {y = l + 2} (omega arith)).1 (omega (arith, twice, mul-le-mul_right l h)) in omega arith;
          from = λ n a b.
              let u : p * l + d < (n + 1) * (2 * s) = (div-lt_iff_lt-mul {k = 2 * s} {x = p * l + d} {y = n + 1} (omega arith)).0 (omega arith) in
              rise_from l s n k (omega arith) (omega (arith, twice));
          until = λ n a b.
              let u : (n + 1) * (2 * s) ≤ p * l + d = (le-div_iff_mul-le {k = 2 * s} {x = n + 1} {y = p * l + d} (omega arith)).0 (omega arith) in
              rise_until l s n k (omega arith) (omega (arith, twice));
        }
