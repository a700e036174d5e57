-- The search for a cell: what each turn knows of the edges about q, the whole numbers from −16,384 to 16,384.
use mathlib.Core.Path.{◌≡◌, sym, ap, ◌∙◌, subst}
use mathlib.Core.Bool.{false, not}
use Prim.Native.Nat.{ℕ, ◌+◌, ◌≤◌}
use native.Mathlib.Omega.{arith}
use lib.Dec.{T, T_not}
use borrow.Author.Tests.{not-false}
use lib.IntN.{pos, ◌+ℤ◌}
use lib.Ieee.{Float, binary64, of_int, le, lt}
use Rattle.laws.proofs.Ints.{parts, to_≡ℤ}
use Rattle.laws.proofs.Tests.{from_true}
use Rattle.survey.specs.Cell.{coordinate_from_least}
use Rattle.survey.specs.Inner.{Between}
use Rattle.survey.proofs.Order.{Small, le_lower, lt_not}

-- an edge is exact as a float
edge_small : (j : ℕ) → j ≤ 32768 → Small (coordinate_from_least j)
edge_small j h = simp parts (omega arith)

-- the next edge is one more
pub next_edge : (j : ℕ) → coordinate_from_least j +ℤ pos 1 ≡ coordinate_from_least (j + 1)
next_edge j = to_≡ℤ (coordinate_from_least j +ℤ pos 1) (coordinate_from_least (j + 1)) (simp parts (omega arith))

-- a lower edge is at most q too
lower_edge : (i j : ℕ) (q : Float) → i ≤ j → j ≤ 32768 → T (le (of_int binary64 (coordinate_from_least j)) q) → T (le (of_int binary64 (coordinate_from_least i)) q)
lower_edge i j q h l t = le_lower (coordinate_from_least i) (coordinate_from_least j) q (edge_small i (omega arith)) (edge_small j l) (simp parts (omega arith)) t

-- q is below an edge that is not at most q
pub below_edge : (low j : ℕ) (q : Float) → T (le (of_int binary64 (coordinate_from_least low)) q) → j ≤ 32768
    → le (of_int binary64 (coordinate_from_least j)) q ≡ false → T (lt q (of_int binary64 (coordinate_from_least j)))
below_edge low j q a h e = from_true _ (lt_not (coordinate_from_least low) (coordinate_from_least j) q (edge_small j h) a ∙ ap not e)

-- an edge from the upper one on is not at most q
pub not_below : (i j k : ℕ) (q : Float) → Between i j q → j ≤ k → k ≤ 32768 → T (le (of_int binary64 (coordinate_from_least k)) q) → ⊥
not_below i j k q b h l t =
    let x = le (of_int binary64 (coordinate_from_least j)) q in
    let n = lt_not (coordinate_from_least i) (coordinate_from_least j) q (edge_small j b.within) b.above in
    T_not x (subst T n b.below) (lower_edge j k q h l t)

-- q has no cell below the least edge, nor from the greatest on
pub none_low : (q x : Float) → x ≡ of_int binary64 (coordinate_from_least 0) → le x q ≡ false → (j : ℕ) → Between j (j + 1) q → ⊥
none_low q x e f j b =
    subst T (ap (λ (x : Float). le x q) (sym e) ∙ f) (lower_edge 0 j q (omega arith) (omega (arith, b.within)) b.above)

pub none_high : (q x : Float) → x ≡ of_int binary64 (coordinate_from_least 32768) → lt q x ≡ false → (j : ℕ) → Between j (j + 1) q → ⊥
none_high q x e f j b =
    let top = le (of_int binary64 (coordinate_from_least 32768)) q in
    let n = lt_not (coordinate_from_least j) (coordinate_from_least 32768) q (edge_small 32768 (omega arith)) b.above in
    not_below j (j + 1) 32768 q b b.within (omega arith) (from_true top (not-false top (sym n ∙ ap (λ (x : Float). lt q x) (sym e) ∙ f)))
