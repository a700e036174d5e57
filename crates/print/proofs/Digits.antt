-- The fewest digits that hold a number are its decimal digits.
use Prim.Native.Nat.{ℕ, zero, suc, ◌+◌, ◌-◌, ◌/◌, ◌%◌, ◌^◌, ◌≤◌, ◌<◌}
use mathlib.Core.Path.{◌≡◌, refl, sym, ap, ap₂, subst, ◌∙◌}
use mathlib.Core.List.{List, [], ◌∷◌, ◌++◌}
use mathlib.Core.Bool.{Bool, true, false, cond}
use native.Mathlib.Omega.{arith}
use native.Mathlib.Nat.{pow-suc, pow-zero, one-le-pow, mod-lt, mod-eq_of_lt}
use lib.Dec.{ltb}
use borrow.Author.Tests.{ltb-true, ltb-false, lt-ltb}
use Rattle.io.specs.Digits.{hex_digit_ascii, last_digits, IsDigitCount}
use Rattle.laws.specs.Text.{decimal_in, decimal}

-- a digit below 10
glyph_is : (d : ℕ) → d < 10 → hex_digit_ascii d ≡ 48 + d
glyph_is d l = ap (λ (t : Bool). cond t (48 + d) (87 + d)) (lt-ltb d 10 l)

-- a number below 10 has one digit, any other more
one_digit : (v k : ℕ) → IsDigitCount 10 1 v k → v < 10 → k ≡ 1
one_digit v zero f l = absurd (omega (arith, f.0))
one_digit v (suc zero) f l = refl
one_digit v (suc (suc j)) f l =
    let e : suc (suc j) - 1 ≡ suc j = omega arith in
    let g = subst (λ (i : ℕ). 10 ^ i ≤ v) e (f.2 (omega arith)) in
    absurd (omega (arith, pow-suc 10 j, one-le-pow j 10 (omega arith)))

-- the digits of the tenths are one fewer
tenths : (v j : ℕ) → IsDigitCount 10 1 v (suc (suc j)) → IsDigitCount 10 1 (v / 10) (suc j)
tenths v j f =
    let e : suc (suc j) - 1 ≡ suc j = omega arith in
    let g = subst (λ (i : ℕ). 10 ^ i ≤ v) e (f.2 (omega arith)) in
    let p = pow-suc 10 (suc j) in
    let q = pow-suc 10 j in
    let h : suc j - 1 ≡ j = omega arith in
    (omega arith, omega (arith, f.1), λ l. subst (λ (i : ℕ). 10 ^ i ≤ v / 10) (sym h) (omega arith))

pub fewest_in : (n v k : ℕ) → v < n → IsDigitCount 10 1 v k → last_digits 10 k v ≡ decimal_in n v
unfolding decimal_in
fewest_in zero v k l f = absurd (omega arith)
fewest_in (suc n) v k l f = by (λ j m g. fewest_in n (v / 10) j m g) k f (ltb v 10) refl
  where
    by : ((j : ℕ) → v / 10 < n → IsDigitCount 10 1 (v / 10) j → last_digits 10 j (v / 10) ≡ decimal_in n (v / 10)) → (k : ℕ) → IsDigitCount 10 1 v k → (t : Bool) → ltb v 10 ≡ t
        → last_digits 10 k v ≡ cond t ((48 + v) ∷ []) (decimal_in n (v / 10) ++ ((48 + v % 10) ∷ []))
    by ih k f true e =
        let m = ltb-true v 10 e in
        ap (λ (i : ℕ). last_digits 10 i v) (one_digit v k f m) ∙ ap (λ (d : ℕ). d ∷ []) (ap hex_digit_ascii (mod-eq_of_lt m) ∙ glyph_is v m)
    by ih zero f false e = absurd (omega (arith, f.0))
    by ih (suc zero) f false e = absurd (omega (arith, f.1, pow-suc 10 0, pow-zero 10, ltb-false v 10 e))
    by ih (suc (suc j)) f false e =
        let m = ltb-false v 10 e in
        ap₂ (λ (a b : List ℕ). a ++ b) (ih (suc j) (omega arith) (tenths v j f)) (ap (λ (d : ℕ). d ∷ []) (glyph_is (v % 10) (mod-lt v (omega arith))))

pub fewest_decimal : (v k : ℕ) → IsDigitCount 10 1 v k → last_digits 10 k v ≡ decimal v
unfolding decimal
fewest_decimal v k f = fewest_in (suc v) v k (omega arith) f
