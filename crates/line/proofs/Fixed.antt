-- In 2H parts, where 2L² is less than H, the whole part of nF + H + 2L, with F = floor(S(2H − 1) / L), is rise L S n:
-- F falls short of 2HS / L by less than 2, so n of them by less than 2L, and 2L / 2H is less than 1 / 2L, the least that the fraction can be below 1.
use Rattle.std.proofs.Common.{◌≡◌, ℕ, zero, suc, ◌+◌, ◌*◌, ◌/◌, ◌%◌, ◌<◌, ◌≤◌, Bool, true, false, cond, ltb, sym, refl, ap, ◌∙◌, mul-le-mul_right, div-lt_iff_lt-mul, mul-le-mul, mul-le-mul_left, arith, ltb-false, ltb-true}
use native.Mathlib.Nat.{div-zero}
use Rattle.laws.proofs.Floor.{div_is, div_low, div_high}
use Rattle.laws.proofs.Products.{mul_lt_back}
use Rattle.line.specs.Rule.{rise}
use Rattle.line.specs.Inner.Fixed.{gradient, gone, tally, Climbs}
use Rattle.line.proofs.Rise.{rise_low, rise_high, rise_start}

-- the bounds that make the gradient
module _ (l s : ℕ) (p : 0 < l) where
  slope_low : gradient l s * l ≤ s * 4294967295
  unfolding gradient
  slope_low = div_low (s * 4294967295) l

  slope_high : s * 4294967295 < (gradient l s + 1) * l
  unfolding gradient
  slope_high = div_high (s * 4294967295) l p

-- over plain numbers, in 2h parts: f the gradient, q the rise
module _ (h l s n f q : ℕ) (p : 0 < l) (fine : 2 * (l * l) < h) (small : s ≤ l) (m : n ≤ l)
    (fl : f * l + s ≤ s * (2 * h)) (fh : s * (2 * h) < (f + 1) * l + s)
    (ql : q * (2 * l) ≤ 2 * (n * s) + l) (qh : 2 * (n * s) + l < (q + 1) * (2 * l)) where
  above : n * f + (h + 2 * l) < (q + 1) * (2 * h)
  above =
      let a : 2 * (n * s) + l + 1 ≤ (q + 1) * (2 * l) = omega arith in
      mul_lt_back (2 * l) (n * f + (h + 2 * l)) ((q + 1) * (2 * h)) (omega (arith, mul-le-mul_left n fl, mul-le-mul_left h a))

  below : q * (2 * h) < n * f + (h + 2 * l) + 1
  below =
      let a : n * l ≤ l * l = mul-le-mul_right l m in
      let b : n * s ≤ l * l = mul-le-mul m small in
      let c : s * (2 * h) ≤ f * l + l + s = omega arith in
      mul_lt_back (2 * l) (q * (2 * h)) (n * f + (h + 2 * l) + 1) (omega (arith, mul-le-mul_left n c, mul-le-mul_left h ql))

  whole_is : (n * f + (h + 2 * l)) / (2 * h) ≡ q
  whole_is = sym (div_is (n * f + (h + 2 * l)) (2 * h) q (omega (arith, below)) above)

-- the whole part of the tally
pub tally_rise : (l s n : ℕ) → s ≤ l → l ≤ 32767 → n ≤ l → tally l s n / 4294967296 ≡ rise l s n
unfolding tally
tally_rise zero s zero a b c = omega (arith, rise_start 0 s)
tally_rise zero s (suc n) a b c = absurd (omega arith)
tally_rise (suc l) s n a b c =
    let p : 0 < suc l = omega arith in
    let square : suc l * suc l ≤ 1073676289 = mul-le-mul {n₁ = suc l} {m₁ = suc l} {n₂ = 32767} {m₂ = 32767} b b in
    whole_is 2147483648 (suc l) s n (gradient (suc l) s) (rise (suc l) s n) p (omega arith) a c
    (omega (arith, slope_low (suc l) s p)) (omega (arith, slope_high (suc l) s p)) (rise_low (suc l) s n) (rise_high (suc l) s n p)

-- the gradient and the tally fit their types
pub parts_fit : (d l s : ℕ) → 0 < l → s ≤ l → s * d / l ≤ d
parts_fit d l s p a =
    let u : s * d ≤ l * d = mul-le-mul_right d a in
    let v : s * d / l < d + 1 = (div-lt_iff_lt-mul {k = l} {x = s * d} {y = d + 1} p).1 (omega arith) in
    omega arith

pub slope_fits : (l s : ℕ) → s ≤ l → gradient l s ≤ 4294967295
unfolding gradient
slope_fits zero s a = omega (arith, div-zero (s * 4294967295))
slope_fits (suc l) s a = parts_fit 4294967295 (suc l) s (omega arith) a

-- where a walk starts
pub tally_is : (l s n f t : ℕ) → f ≡ gradient l s → t ≡ gone l f n → t ≡ tally l s n
unfolding tally
tally_is l s n f t a b = b ∙ ap (λ (z : ℕ). gone l z n) a

tally_on : (l s n k : ℕ) → tally l s (n + k) ≡ tally l s n + k * gradient l s
unfolding tally
tally_on l s n k = omega arith

pub tally_climbs : (l s n : ℕ) → s ≤ l → l ≤ 32767 → n ≤ l → Climbs l s n (tally l s n % 4294967296) (gradient l s)
tally_climbs l s n a b c =
    record {
      in_hand = omega arith;
      step = omega (arith, slope_fits l s a);
      rises = λ k d. omega (arith, tally_rise l s n a b c, tally_rise l s (n + k) a b d, tally_on l s n k);
    }

pub start_climbs : (l s f : ℕ) → s ≤ l → l ≤ 32767 → f ≡ gradient l s → Climbs l s 0 (2147483648 + 2 * l) f
unfolding tally
start_climbs l s f a b e =
    let h : 2147483648 + 2 * l ≡ tally l s 0 % 4294967296 = omega arith in
    rw (h, e) (tally_climbs l s 0 a b (omega arith))

-- a short line in parts of 2^16
pub short_climbs : (l s : ℕ) → 0 < l → s ≤ l → l < 128 → Climbs l s 0 (65536 * (32768 + 2 * l)) (65536 * (s * 65535 / l))
short_climbs l s p a b =
    let g = s * 65535 / l in
    let square : l * l ≤ 16129 = mul-le-mul {n₁ = l} {m₁ = l} {n₂ = 127} {m₂ = 127} (omega arith) (omega arith) in
    record {
      in_hand = omega arith;
      step = omega (arith, parts_fit 65535 l s p a);
      rises = λ k d.
          let e : 0 + k ≡ k = omega arith in
          let w : (k * g + (32768 + 2 * l)) / 65536 ≡ rise l s k =
          whole_is 32768 l s k g (rise l s k) p (omega arith) a (omega arith)
          (omega (arith, div_low (s * 65535) l)) (omega (arith, div_high (s * 65535) l p)) (rise_low l s k) (rise_high l s k p) in
          omega (arith, rise_start l s, ap (rise l s) e);
    }

-- a turn adds the slope
pub climbs_on : (l s n start f next : ℕ) → Climbs l s n start f → next ≡ (start + f) % 4294967296 → Climbs l s (n + 1) next f
climbs_on l s n start f next c e =
    record {
      in_hand = omega arith;
      step = c.step;
      rises = λ k d.
          let m : n + (k + 1) ≡ n + 1 + k = omega arith in
          let u = c.rises 1 (omega arith) in
          let v = c.rises (k + 1) (omega arith) ∙ ap (rise l s) m in
          omega arith;
    }

-- and the sum of the parts wraps just where the whole part goes up
pub rise_next : (l s n start f next : ℕ) → Climbs l s n start f → n + 1 ≤ l → next ≡ (start + f) % 4294967296
    → cond (ltb next start) (rise l s n + 1) (rise l s n) ≡ rise l s (n + 1)
rise_next l s n start f next c m e = by (ltb next start) refl
  where
    by : (t : Bool) → ltb next start ≡ t → cond t (rise l s n + 1) (rise l s n) ≡ rise l s (n + 1)
    by true h = omega (arith, ltb-true next start h, c.rises 1 m, c.in_hand, c.step)
    by false h = omega (arith, ltb-false next start h, c.rises 1 m, c.in_hand, c.step)
