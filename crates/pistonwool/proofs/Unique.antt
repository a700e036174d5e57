-- Two replies to C that meet one statement are equal: number and value.
use Prim.Native.Nat.{ℕ}
use mathlib.Core.Path.{◌≡◌, refl, sym, ap, ◌∙◌}
use mathlib.Core.Bool.{Bool, true, false}
use borrow.Author.Tests.{eqb-true, eqb-false}
use lib.Dec.{eqb}
use Rattle.sheet.specs.Reply.{Answer, value_of}
use Rattle.sheet.specs.Figure.{number_in}
use Rattle.pistonwool.specs.Told.{numbered, counted, two_counted, replied, Keeps}

pub numbered_one : (n m : ℕ) → numbered n ≡ numbered m → n ≡ m
numbered_one n m e = ap (λ (a : Answer). a.number) e

pub replied_one : (n m v w : ℕ) → replied n v ≡ replied m w → (n ≡ m) × (v ≡ w)
replied_one n m v w e = (ap (λ (a : Answer). a.number) e, ap value_of e)

-- the value where the number is 0
pub counted_one : (n m v w : ℕ) → counted n v ≡ counted m w → (n ≡ m) × (n ≡ 0 → v ≡ w)
counted_one n m v w e =
    let f : n ≡ m = ap (λ (a : Answer). a.number) e in
    (f, λ z. first n v z ∙ ap value_of e ∙ sym (first m w (sym f ∙ z)))
  where
    first : (n v : ℕ) → n ≡ 0 → v ≡ value_of (counted n v)
    first n v z = rw z

-- and else what was in its place, so that with the same before it is the same in any case
pub kept_one : (n m before v w : ℕ) → counted n v ≡ counted m w → Keeps n before v → Keeps m before w → v ≡ w
kept_one n m before v w e h g = by (eqb n 0) refl
  where
    by : (t : Bool) → eqb n 0 ≡ t → v ≡ w
    by true z = (counted_one n m v w e).1 (eqb-true n 0 z)
    by false z = h (eqb-false n 0 z) ∙ sym (g (λ o. eqb-false n 0 z ((counted_one n m v w e).0 ∙ o)))

-- both values of a rescue
pub two_counted_one : (n m v w p q : ℕ) → two_counted n v p ≡ two_counted m w q → (n ≡ m) × (n ≡ 0 → (v ≡ w) × (p ≡ q))
two_counted_one n m v w p q e =
    let f : n ≡ m = ap (λ (a : Answer). a.number) e in
    let g : (z : n ≡ 0) → (v ≡ w) × (p ≡ q) = λ z.
    let o = sym f ∙ z in (
      first n v p z ∙ ap value_of e ∙ sym (first m w q o),
      second n v p z ∙ ap (λ (a : Answer). number_in a.values 1) e ∙ sym (second m w q o),
    ) in
    (f, g)
  where
    first : (n v p : ℕ) → n ≡ 0 → v ≡ value_of (two_counted n v p)
    first n v p z = rw z

    second : (n v p : ℕ) → n ≡ 0 → p ≡ number_in (two_counted n v p).values 1
    second n v p z = rw z

pub kept_both : (n m a b v w p q : ℕ) → two_counted n v p ≡ two_counted m w q → Keeps n a v → Keeps m a w → Keeps n b p → Keeps m b q
    → (v ≡ w) × (p ≡ q)
kept_both n m a b v w p q e hv hw hp hq = by (eqb n 0) refl
  where
    by : (t : Bool) → eqb n 0 ≡ t → (v ≡ w) × (p ≡ q)
    by true z = (two_counted_one n m v w p q e).1 (eqb-true n 0 z)
    by false z =
        let no : m ≡ 0 → ⊥ = λ o. eqb-false n 0 z ((two_counted_one n m v w p q e).0 ∙ o) in
        (hv (eqb-false n 0 z) ∙ sym (hw no), hp (eqb-false n 0 z) ∙ sym (hq no))
