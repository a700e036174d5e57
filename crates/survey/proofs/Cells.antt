-- The cell of a float: `found_cell` answers what document 01 asks, and nothing else does.
use mathlib.Core.Path.{◌≡◌, refl, sym, ap, ◌∙◌, subst}
use mathlib.Core.Logic.{inl, inr}
use mathlib.Core.Bool.{Bool, true, false, cond}
use Prim.Native.Nat.{ℕ, zero, suc, ◌+◌, ◌-◌, ◌<◌}
use native.Mathlib.Omega.{arith}
use lib.Dec.{T}
use lib.IntN.{ℤ, pos, ◌+ℤ◌}
use lib.Ieee.{Float, nan, inf, binary64, of_int, le, lt}
use Rattle.laws.proofs.Parts.{up, dn}
use Rattle.laws.proofs.Ints.{parts, one_zero, to_≡ℤ}
use Rattle.laws.proofs.Tests.{and_l, and_r, and_i, from_true, is_true}
use Rattle.laws.proofs.Products.{lt_or_ge}
use Rattle.std.specs.Prelude.{Result, Ok, Err}
use Rattle.sheet.specs.Sheet.{coordinate}
use Rattle.sheet.specs.declared.refusal.Refusal.{Refusal}
use Rattle.sheet.specs.declared.refusal.Refusal.TheVariants.{NoCell}
use Rattle.sheet.proofs.Limits.{limit_low, limit_high, limit_in}
use Rattle.survey.specs.Cell.{is_cell_of, coordinate_from_least, found_among, found_cell}
use Rattle.survey.specs.Inner.{Between}
use Rattle.survey.proofs.Search.{next_edge, not_below, none_low, none_high}
use Rattle.survey.proofs.Order.{le_nan}

-- what it is to be the cell of q: a whole number k in −16,384 to 16,383 with k ≤ q and q < k + 1; and for q to have none
abbrev pub CellOf : Float → Result ℤ Refusal → Type 0
CellOf q (Ok k) = T (coordinate k) × T (is_cell_of q k)
CellOf q (Err r) = (r ≡ NoCell) × ((k : ℤ) → T (coordinate k) → T (is_cell_of q k) → ⊥)

-- q is in the cell above an edge: between it and the next
cell_between : (j : ℕ) (q : Float) → j < 32768 → T (is_cell_of q (coordinate_from_least j)) → Between j (j + 1) q
unfolding is_cell_of
cell_between j q l t =
    let a = le (of_int binary64 (coordinate_from_least j)) q in
    let b = lt q (of_int binary64 (coordinate_from_least j +ℤ pos 1)) in
    record {
      apart = omega arith;
      within = omega arith;
      above = and_l a b t;
      below = subst (λ (k : ℤ). T (lt q (of_int binary64 k))) (next_edge j) (and_r a b t);
    }

between_cell : (j : ℕ) (q : Float) → Between j (j + 1) q → T (is_cell_of q (coordinate_from_least j))
unfolding is_cell_of
between_cell j q b =
    and_i (le (of_int binary64 (coordinate_from_least j)) q) (lt q (of_int binary64 (coordinate_from_least j +ℤ pos 1))) b.above
    (subst (λ (k : ℤ). T (lt q (of_int binary64 k))) (sym (next_edge j)) b.below)

-- no two edges have q in the cell above them
one_edge : (i j : ℕ) (q : Float) → Between i (i + 1) q → Between j (j + 1) q → i ≡ j
one_edge i j q a b = elim (lt_or_ge i j) [
  | inl u ↦ absurd (not_below i (i + 1) j q a (omega arith) (omega (arith, b.within)) b.above)
  | inr u ↦ elim (lt_or_ge j i) [ inl v ↦ absurd (not_below j (j + 1) i q b (omega arith) (omega (arith, a.within)) a.above) | inr v ↦ omega arith ]
]

-- a coordinate, counted up from the least
record Counted (k : ℤ) : Type 0 where
  count : ℕ
  below : count < 32768
  is : k ≡ coordinate_from_least count

counted : (k : ℤ) → T (coordinate k) → Counted k
counted k t =
    let l = limit_low k (is_true (coordinate k) t) in
    let h = limit_high k (is_true (coordinate k) t) in
    let j = up k + 16384 - dn k in
    record { count = j; below = omega (arith, one_zero k); is = to_≡ℤ k (coordinate_from_least j) (simp parts (omega (arith, one_zero k))) }

-- so a cell of q within the limits is q between two edges
counted_between : (q : Float) (k : ℤ) (l : T (coordinate k)) → T (is_cell_of q k) → Between (counted k l).count ((counted k l).count + 1) q
counted_between q k l t =
    let o = counted k l in
    cell_between o.count q o.below (subst (λ (z : ℤ). T (is_cell_of q z)) o.is t)

from_least_within_limits : (j : ℕ) → j < 32768 → T (coordinate (coordinate_from_least j))
from_least_within_limits j l = from_true (coordinate (coordinate_from_least j)) (limit_in (coordinate_from_least j) (simp parts (omega arith)) (simp parts (omega arith)))

-- what `found_among` finds passes the test, and where it finds none, none does
Right : ℕ → (ℤ → Bool) → Result ℤ Refusal → Type 0
Right n test (Ok k) = (j : ℕ) × (j < n) × (k ≡ coordinate_from_least j) × T (test k)
Right n test (Err r) = (r ≡ NoCell) × ((j : ℕ) → j < n → T (test (coordinate_from_least j)) → ⊥)

among_right : (n : ℕ) (test : ℤ → Bool) → Right n test (found_among n test)
unfolding found_among Right
among_right zero test = (refl, λ j l t. omega arith)
among_right (suc n) test = by (test (coordinate_from_least n)) refl (found_among n test) (among_right n test)
  where
    by : (b : Bool) → test (coordinate_from_least n) ≡ b → (r : Result ℤ Refusal) → Right n test r → Right (suc n) test (cond b (Ok (coordinate_from_least n)) r)
    by true e r h = (n, omega arith, refl, from_true (test (coordinate_from_least n)) e)
    by false e (Ok k) h = (h.0, omega (arith, h.1), h.2, h.3)
    by false e (Err r) h = (
      h.0,
      λ j l t. elim (lt_or_ge j n) [
        | inl u ↦ h.1 j u t
        | inr u ↦ let same : j ≡ n = omega arith in subst T (ap (λ (i : ℕ). test (coordinate_from_least i)) same ∙ e) t
      ],
    )

-- The cell of q is the whole number k with k ≤ q and q < k + 1; there is none exactly if no such k in the limits exists.
pub cell_right : (q : Float) → CellOf q (found_cell q)
unfolding found_cell Right
cell_right q = by (found_among 32768 (is_cell_of q)) (among_right 32768 (is_cell_of q))
  where
    by : (r : Result ℤ Refusal) → Right 32768 (is_cell_of q) r → CellOf q r
    by (Ok k) h = (subst (λ (z : ℤ). T (coordinate z)) (sym h.2) (from_least_within_limits h.0 h.1), h.3)
    by (Err r) h = (h.0, λ k l t. let o = counted k l in h.1 o.count o.below (subst (λ (z : ℤ). T (is_cell_of q z)) o.is t))

-- No float has two cells.
pub cell_one : (q : Float) (k j : ℤ) → T (coordinate k) → T (coordinate j) → T (is_cell_of q k) → T (is_cell_of q j) → k ≡ j
cell_one q k j a b s t =
    let m = counted k a in
    let n = counted j b in
    let same = one_edge m.count n.count q (counted_between q k a s) (counted_between q j b t) in
    m.is ∙ ap (λ (i : ℕ). coordinate_from_least i) same ∙ sym n.is

one_answer : (q : Float) (r s : Result ℤ Refusal) → CellOf q r → CellOf q s → r ≡ s
one_answer q (Ok k) (Ok j) a b = ap Ok (cell_one q k j a.0 b.0 a.1 b.1)
one_answer q (Ok k) (Err r) a b = absurd (b.1 k a.0 a.1)
one_answer q (Err r) (Ok j) a b = absurd (a.1 j b.0 b.1)
one_answer q (Err r) (Err t) a b = ap Err (a.0 ∙ sym b.0)

-- So no other answer is right.
pub cell_only : (q : Float) (r : Result ℤ Refusal) → CellOf q r → r ≡ found_cell q
cell_only q r a = one_answer q r (found_cell q) a (cell_right q)

-- the cell of a float, where its two comparisons compute to true
pub cell_is : (q : Float) (k : ℤ) → T (coordinate k) → T (is_cell_of q k) → found_cell q ≡ Ok k
cell_is q k l t = sym (cell_only q (Ok k) (l, t))

-- what the search found, and what it did not
pub found_at : (j : ℕ) (k : ℤ) (q : Float) → Between j (j + 1) q → k ≡ coordinate_from_least j → Ok k ≡ found_cell q
found_at j k q b e = ap Ok e ∙ cell_only q (Ok (coordinate_from_least j)) (from_least_within_limits j (omega (arith, b.within)), between_cell j q b)

pub found_none : (q : Float) → ((j : ℕ) → Between j (j + 1) q → ⊥) → Err NoCell ≡ found_cell q
found_none q f = cell_only q (Err NoCell) (refl, λ k l t. f (counted k l).count (counted_between q k l t))

-- as below the least edge, and from the greatest on
pub found_low : (q x : Float) → x ≡ of_int binary64 (coordinate_from_least 0) → le x q ≡ false → Err NoCell ≡ found_cell q
found_low q x e f = found_none q (none_low q x e f)

pub found_high : (q x : Float) → x ≡ of_int binary64 (coordinate_from_least 32768) → lt q x ≡ false → Err NoCell ≡ found_cell q
found_high q x e f = found_none q (none_high q x e f)

-- That covers not-a-number ..
pub nan_none : found_cell nan ≡ Err NoCell
nan_none = sym (found_none nan (λ j b. subst T (le_nan (of_int binary64 (coordinate_from_least j))) b.above))

-- .. and both infinities.
pub inf_none : (s : Bool) → found_cell (inf s) ≡ Err NoCell
inf_none true = sym (found_none (inf true) (none_low (inf true) (of_int binary64 (coordinate_from_least 0)) refl least))
  where
    least : le (of_int binary64 (coordinate_from_least 0)) (inf true) ≡ false
    least = unfold of_int le in refl
inf_none false = sym (found_none (inf false) (none_high (inf false) (of_int binary64 (coordinate_from_least 32768)) refl greatest))
  where
    greatest : lt (inf false) (of_int binary64 (coordinate_from_least 32768)) ≡ false
    greatest = unfold of_int lt in refl
