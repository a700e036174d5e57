-- The laws of `inked`, how many of some bytes are nonzero, and what it is of a row.
use Prim.Native.Nat.{ℕ, ◌+◌, ◌*◌, ◌≤◌}
use mathlib.Core.Path.{◌≡◌, refl, ap, ◌∙◌}
use mathlib.Core.List.{List}
use mathlib.Core.Bool.{Bool, true, false, cond, not}
use native.Mathlib.Omega.{arith}
use native.Mathlib.Numerals.{add-one}
use lib.Dec.{eqb}
use lib.ListN.{get_or}
use Rattle.laws.specs.Below.{count}
use Rattle.laws.proofs.Below.{count_as, count_most, count_add}
use Rattle.sheet.specs.Sheet.{place}
use Rattle.sheet.specs.declared.Shape.{Shape}
use Rattle.tally.specs.Tally.{row_count}
use Rattle.tally.specs.Inner.{inked}

module _ (s : List ℕ) (at : ℕ) where
  pub inked_none : inked s at 0 ≡ 0
  unfolding inked count
  inked_none = refl

  -- one byte more
  pub inked_one : (n : ℕ) → inked s at (n + 1) ≡ inked s at n + cond (eqb (get_or s (at + n) 0) 0) 0 1
  unfolding inked count
  inked_one n = rw add-one (ap (λ (m : ℕ). count n (λ (i : ℕ). not (eqb (get_or s (at + i) 0) 0)) + m) (turned (eqb (get_or s (at + n) 0) 0)))
    where
      turned : (t : Bool) → ◌≡◌ {A = ℕ} (cond (not t) 1 0) (cond t 0 1)
      turned true = refl
      turned false = refl

  -- no more than there are
  pub inked_most : (n : ℕ) → inked s at n ≤ n
  unfolding inked
  inked_most n = count_most n (λ (i : ℕ). not (eqb (get_or s (at + i) 0) 0))

  -- n bytes more
  pub inked_add : (m n : ℕ) → inked s at (m + n) ≡ inked s at m + inked s (at + m) n
  unfolding inked
  inked_add m n =
      count_add m n (λ (i : ℕ). not (eqb (get_or s (at + i) 0) 0))
      ∙ ap (λ (c : ℕ). count m (λ (i : ℕ). not (eqb (get_or s (at + i) 0) 0)) + c)
      (count_as n _ _ (λ i l. ap (λ (j : ℕ). not (eqb (get_or s j 0) 0)) (let e : at + (m + i) ≡ at + m + i = omega arith in e)))

  pub inked_more : (i m n r : ℕ) → n ≡ inked s at i → r ≡ inked s (at + i) m → (n + r ≡ inked s at (i + m)) × (n + r ≤ i + m)
  inked_more i m n r e f =
      let g : n + r ≡ inked s at (i + m) = omega (arith, e, f, inked_add i m) in
      (g, omega (arith, g, inked_most (i + m)))

-- the number of a row is that of its bytes up to the width
pub row_inked : (k : Shape) (s : List ℕ) (y : ℕ) → inked s (y * k.pitch) k.width ≡ row_count k s y
unfolding row_count inked place
row_inked k s y = refl
