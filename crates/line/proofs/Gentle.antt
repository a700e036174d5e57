-- A line read along an extent that is no shorter than the other: it has a cell at each place between its ends, and two cells
-- of it are no further apart across than along.
use Rattle.std.proofs.Common.{◌≡◌, ℕ, ◌+◌, ◌-◌, ◌≤◌, Bool, true, false, cond, T, ltb, ℤ, sym, refl, ap, ◌∙◌, subst, subst₂, inl, inr, arith, ltb-false, ltb-true}
use Rattle.laws.proofs.Apart.{apart}
use Rattle.laws.proofs.Products.{lt_or_ge}
use Rattle.sheet.specs.Chain.{wide, tall}
use Rattle.sheet.specs.Sheet.{cell}
use Rattle.sheet.specs.declared.Cell.{Cell}
use Rattle.line.specs.Inner.Course.{gap}
use Rattle.line.specs.Rule.{lesser, longer, shorter, long, short, toward, on_line}
use Rattle.line.specs.Listing.{listed}
use Rattle.line.proofs.Across.{crossed, crossed_gentle, crossed_diagonal}
use Rattle.line.proofs.Axis.{toward_apart, toward_between}
use Rattle.line.proofs.EitherEnd.{short_long}
use Rattle.line.proofs.OnLine.{listed_on, on_listed}
use Rattle.line.proofs.Place.{at_by, listed_at}

-- the extent along which it is read, that of y or that of x, and the other
abbrev pub extent : Bool → Cell → Cell → ℕ
extent up a b = cond up (tall a b) (wide a b)

abbrev pub other : Bool → Cell → Cell → ℕ
other up a b = cond up (wide a b) (tall a b)

-- where a cell stands along it and across, and the cell that stands so
abbrev pub along : Bool → Cell → ℤ
along up c = cond up c.y c.x

abbrev pub cell_by : Bool → ℤ → ℤ → Cell
cell_by up z w = cond up (cell w z) (cell z w)

-- the cell n along, where n is as far as z is from the first end
at_place : (up : Bool) (a b : Cell) (z : ℤ) (q : ℕ) → apart (along up a) z + apart z (along up b) ≡ extent up a b
    → (w : ℤ) × (at_by up a b (apart (along up a) z) q ≡ cell_by up z w)
at_place true a b z q e =
    let x = toward a.x b.x q in
    (x, λ i. cell x (toward_between a.y b.y z e i))
at_place false a b z q e =
    let y = toward a.y b.y q in
    (y, λ i. cell (toward_between a.x b.x z e i) y)

-- two cells, n along and m along
at_apart : (up : Bool) (a b : Cell) (n m q r : ℕ)
    → (extent up (at_by up a b n q) (at_by up a b m r) ≡ gap n m) × (other up (at_by up a b n q) (at_by up a b m r) ≡ gap q r)
at_apart true a b n m q r = (toward_apart a.y b.y n m, toward_apart a.x b.x q r)
at_apart false a b n m q r = (toward_apart a.x b.x n m, toward_apart a.y b.y q r)

equal_extents : (w t : ℕ) → w ≡ t → shorter w t ≡ longer w t
equal_extents w t e = by (ltb w t)
  where
    by : (u : Bool) → cond u w t ≡ cond u t w
    by true = e
    by false = sym e

module _ (a b : Cell) where
  -- how many steps across the nth cell is
  abbrev across : ℕ → ℕ
  across n = crossed (lesser a b) (long a b) (short a b) n

  diagonal : wide a b ≡ tall a b → (n : ℕ) → n ≤ long a b → across n ≡ n
  diagonal e n l =
      let s : short a b ≡ long a b = equal_extents (wide a b) (tall a b) e in
      ap (λ (s : ℕ). crossed (lesser a b) (long a b) s n) s ∙ crossed_diagonal (lesser a b) (long a b) n l

  across_gentle : (n m : ℕ) → n ≤ long a b → m ≤ long a b → gap (across n) (across m) ≤ gap n m
  across_gentle n m l h = elim (lt_or_ge n m) [ inl g ↦ by n m (omega arith) h | inr g ↦ omega (arith, by m n g l) ]
    where
      by : (n m : ℕ) → n ≤ m → m ≤ long a b → gap (across n) (across m) ≤ gap n m
      by n m g h =
          let e : n + (m - n) ≡ m = omega arith in
          omega (arith, ap across e, crossed_gentle (lesser a b) (long a b) (short a b) n (m - n) (short_long a b) (omega arith))

  module _ (up : Bool) (no_shorter : other up a b ≤ extent up a b) where
    -- it is the longer, and is called so unless both are equal
    long_is : long a b ≡ extent up a b
    long_is = by up (ltb (wide a b) (tall a b)) refl no_shorter
      where
        by : (u t : Bool) → ltb (wide a b) (tall a b) ≡ t → other u a b ≤ extent u a b → cond t (tall a b) (wide a b) ≡ extent u a b
        by true true e l = refl
        by true false e l = omega (arith, ltb-false (wide a b) (tall a b) e)
        by false true e l = absurd (omega (arith, ltb-true (wide a b) (tall a b) e))
        by false false e l = refl

    listed_by : (n : ℕ) → n ≤ long a b → listed a b n ≡ at_by up a b n (across n)
    listed_by n l = listed_at a b n l ∙ by up (ltb (wide a b) (tall a b)) refl no_shorter
      where
        by : (u t : Bool) → ltb (wide a b) (tall a b) ≡ t → other u a b ≤ extent u a b → at_by t a b n (across n) ≡ at_by u a b n (across n)
        by true true e h = refl
        by true false e h =
            let d = diagonal (omega (arith, ltb-false (wide a b) (tall a b) e)) n l in
            λ i. record { x = toward a.x b.x (sym d i); y = toward a.y b.y (d i) }
        by false true e h = absurd (omega (arith, ltb-true (wide a b) (tall a b) e))
        by false false e h = refl

    -- at each place between its ends it has a cell,
    pub has_cell_at : (z : ℤ) → apart (along up a) z + apart z (along up b) ≡ extent up a b → (w : ℤ) × T (on_line a b (cell_by up z w))
    has_cell_at z e =
        let n = apart (along up a) z in
        let l : n ≤ long a b = omega (arith, long_is) in
        let c = at_place up a b z (across n) e in
        (c.0, subst (λ (c : Cell). T (on_line a b c)) (listed_by n l ∙ c.1) (listed_on a b n l))

    -- and two cells of it are no further apart across than along
    pub gentle : (p q : Cell) → T (on_line a b p) → T (on_line a b q) → other up p q ≤ extent up p q
    gentle p q s t =
        let m = on_listed a b p s in
        let n = on_listed a b q t in
        subst₂ (λ (p q : Cell). other up p q ≤ extent up p q)
        (sym (m.is_cell ∙ listed_by m.number m.within))
        (sym (n.is_cell ∙ listed_by n.number n.within))
        (omega (
          arith,
          at_apart up a b m.number n.number (across m.number) (across n.number),
          across_gentle m.number n.number m.within n.within,
        ))
