-- The laws of the numbers of rows: a list that is right, and rows that are counted again.
use Prim.Native.Nat.{ℕ, ◌+◌, ◌*◌, ◌<◌, ◌≤◌, max}
use mathlib.Core.Path.{◌≡◌, refl, sym, ap, ◌∙◌}
use mathlib.Core.List.{List}
use mathlib.Core.Logic.{◌⊎◌, inl, inr}
use mathlib.Core.Bool.{Bool, true, false, cond, not, ◌&&◌, true≢false}
use native.Mathlib.Omega.{arith}
use native.Mathlib.Decide.{dec_le, dec_lt}
use borrow.Author.Tests.{eq-eqb, ne_eqb, eqb-true, le-leb, lt-leb, lt-ltb, le-ltb}
use lib.Dec.{T, eqb, leb, ltb}
use lib.ListN.{length, get_or, set, length-set}
use Rattle.laws.specs.Below.{any}
use Rattle.laws.proofs.Below.{any_at, any→}
use Rattle.laws.proofs.Tests.{is_true, is_false, from_true}
use Rattle.sheet.specs.Sheet.{by_place}
use Rattle.sheet.specs.declared.Shape.{Shape}
use Rattle.sheet.proofs.Places.{by_as, by_at, by_none, by_then, by_one}
use Rattle.tally.specs.Tally.{row_count, tally_of, right}
use Rattle.tally.specs.Inner.{inked, counted_rows}
use Rattle.tally.proofs.Inked.{row_inked}

module _ (k : Shape) (s rows : List ℕ) where
  other : ℕ → Bool
  other y = not (eqb (get_or rows y 0) (row_count k s y))

  -- a list is right where each row's place holds its number, and it is wrong where one does not
  pub right_all : ((y : ℕ) → y < k.height → get_or rows y 0 ≡ row_count k s y) → right k s rows ≡ true
  unfolding right other
  right_all h = ap not (is_false (any k.height other) (λ t. let f = any→ k.height other t in none f.at (h f.at f.below) f.passes))
    where
      none : (y : ℕ) → get_or rows y 0 ≡ row_count k s y → T (other y) → ⊥
      none y e t = true≢false (sym (is_true (other y) t) ∙ ap not (eq-eqb _ _ e))

  pub right_not : (y : ℕ) → y < k.height → (get_or rows y 0 ≡ row_count k s y → ⊥) → right k s rows ≡ false
  unfolding right other
  right_not y l h = ap not (is_true (any k.height other) (any_at k.height other y l (from_true (other y) (ap not (ne_eqb _ _ h)))))

  pub right_at : right k s rows ≡ true → (y : ℕ) → y < k.height → get_or rows y 0 ≡ row_count k s y
  right_at e y l = by (eqb (get_or rows y 0) (row_count k s y)) refl
    where
      by : (t : Bool) → eqb (get_or rows y 0) (row_count k s y) ≡ t → get_or rows y 0 ≡ row_count k s y
      by true f = eqb-true _ _ f
      by false f = absurd (true≢false (sym e ∙ right_not y l (λ g. true≢false (sym (eq-eqb _ _ g) ∙ f))))

  abbrev inside : ℕ → ℕ → ℕ → Bool
  inside from to y = leb from y && ltb y to

  abbrev at : ℕ → ℕ → ℕ → ℕ → ℕ
  at from to y v = cond (inside from to y) (row_count k s y) v

  -- no row is counted yet; one more; and all
  pub counted_none : (from to : ℕ) → to ≤ from → counted_rows k s from to rows ≡ rows
  unfolding counted_rows
  counted_none from to l = by_as (at from to) (λ (y v : ℕ). v) rows (λ y v m. ap (λ (t : Bool). cond t (row_count k s y) v) (none y (dec_lt y from))) ∙ by_none rows
    where
      none : (y : ℕ) → Dec (y < from) → inside from to y ≡ false
      none y (yes a) = rw (lt-leb from y a) refl
      none y (no a) = rw (le-leb from y (omega arith), le-ltb y to (omega arith)) refl

  pub counted_one : (from y : ℕ) → from ≤ y → set (counted_rows k s from y rows) y (row_count k s y) ≡ counted_rows k s from (y + 1) rows
  unfolding counted_rows
  counted_one from y l =
      sym (by_one (by_place (at from y) rows) y (row_count k s y))
      ∙ by_then (at from y) (λ (n v : ℕ). cond (eqb n y) (row_count k s y) v) rows
      ∙ by_as _ (at from (y + 1)) rows (λ n v m. one n v (dec_lt n y) (dec_lt y n))
    where
      one : (n v : ℕ) → Dec (n < y) → Dec (y < n) → cond (eqb n y) (row_count k s y) (at from y n v) ≡ at from (y + 1) n v
      one n v (yes a) b = rw (ne_eqb n y (λ e. omega arith), lt-ltb n y a, lt-ltb n (y + 1) (omega arith)) refl
      one n v (no a) (yes b) = rw (ne_eqb n y (λ e. omega arith), le-ltb n y (omega arith), le-ltb n (y + 1) (omega arith)) refl
      one n v (no a) (no b) =
          let e : n ≡ y = omega arith in
          rw e (rw (eq-eqb y y refl, le-leb from y l, lt-ltb y (y + 1) (omega arith)) refl)

  -- a loop from a row on to before another, that ends where it began or at the other
  pub counted_end : (from to y : ℕ) → to ≤ y → from ≤ y → y ≤ max from to → counted_rows k s from y rows ≡ counted_rows k s from to rows
  counted_end from to y a b c = by (dec_le from to)
    where
      by : Dec (from ≤ to) → counted_rows k s from y rows ≡ counted_rows k s from to rows
      by (yes l) = let e : y ≡ to = omega arith in ap (λ (n : ℕ). counted_rows k s from n rows) e
      by (no l) = counted_none from y (omega arith) ∙ sym (counted_none from to (omega arith))

  -- rows counted again leave a list that is right, where each other row's number is the same as before
  pub counted_again : (from to : ℕ) → ((y : ℕ) → y < length rows → (y < from) ⊎ (to ≤ y) → get_or rows y 0 ≡ row_count k s y)
      → counted_rows k s from to rows ≡ tally_of k s rows
  unfolding counted_rows tally_of
  counted_again from to h = by_at (at from to) (λ (y v : ℕ). row_count k s y) rows (λ y l. one y l (dec_le from y) (dec_lt y to))
    where
      one : (y : ℕ) → y < length rows → Dec (from ≤ y) → Dec (y < to) → at from to y (get_or rows y 0) ≡ row_count k s y
      one y l (yes a) (yes b) = rw (le-leb from y a, lt-ltb y to b) refl
      one y l (yes a) (no b) = rw (le-leb from y a, le-ltb y to (omega arith)) (h y l (inr (omega arith)))
      one y l (no a) b = rw (lt-leb from y (omega arith)) (h y l (inl (omega arith)))

-- all rows
pub counted_all : (k : Shape) (s rows : List ℕ) → length rows ≡ k.height → counted_rows k s 0 k.height rows ≡ tally_of k s rows
counted_all k s rows e = counted_again k s rows 0 k.height none
  where
    none : (y : ℕ) → y < length rows → (y < 0) ⊎ (k.height ≤ y) → get_or rows y 0 ≡ row_count k s y
    none y l (inl o) = absurd (omega arith)
    none y l (inr o) = absurd (omega arith)

-- the rows from one to before y are counted, on any sheet of this width and pitch: what a loop over rows keeps
pub record Lists (s rows₀ : List ℕ) (from width pitch : ℕ) (rows : List ℕ) (y : ℕ) : Type 0 where
  pub size : length rows ≡ length rows₀
  pub is : (k : Shape) → k.width ≡ width → k.pitch ≡ pitch → rows ≡ counted_rows k s from y rows₀

pub lists_none : (s rows : List ℕ) (from width pitch : ℕ) → Lists s rows from width pitch rows from
lists_none s rows from width pitch = record { size = refl; is = λ k e f. sym (counted_none k s rows from from (omega arith)) }

pub lists_one : {s rows₀ : List ℕ} {from width pitch : ℕ} {rows : List ℕ} {y r : ℕ} → Lists s rows₀ from width pitch rows y → from ≤ y
    → r ≡ inked s (y * pitch) width → Lists s rows₀ from width pitch (set rows y r) (y + 1)
lists_one {s} {rows₀} {from} {width} {pitch} {rows} {y} {r} L l e =
    record {
      size = length-set rows y r ∙ L.size;
      is = λ k f g.
          let h : r ≡ row_count k s y = e ∙ ap (λ (w : ℕ). inked s (y * pitch) w) (sym f) ∙ ap (λ (p : ℕ). inked s (y * p) k.width) (sym g) ∙ row_inked k s y in
          ap (λ (q : List ℕ). set q y r) (L.is k f g) ∙ ap (set (counted_rows k s from y rows₀) y) h ∙ counted_one k s rows₀ from y l;
    }

-- the places before y hold the numbers of their rows
pub record Holds (s rows : List ℕ) (width pitch y : ℕ) : Type 0 where
  pub at : (j : ℕ) → j < y → get_or rows j 0 ≡ inked s (j * pitch) width
