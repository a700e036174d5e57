-- Stairs in a quadrant are a chain that has each of their cells once.
use Prim.Native.Nat.{ℕ, zero, suc, ◌+◌, ◌-◌, ◌≤◌}
use mathlib.Core.Path.{◌≡◌, refl, ap, ap₂, ◌∙◌}
use mathlib.Core.Logic.{◌⊎◌, inl, inr}
use mathlib.Core.List.{List, [], ◌∷◌}
use mathlib.Core.Bool.{Bool, true, false, cond, ◌&&◌}
use native.Mathlib.Omega.{arith}
use lib.Dec.{T}
use Rattle.laws.proofs.Products.{lt_or_ge}
use Rattle.laws.proofs.Tests.{same}
use Rattle.sheet.specs.Chain.{wide, tall, Chain}
use Rattle.sheet.specs.Chain.Chain.{end, step}
use Rattle.sheet.specs.declared.Cell.{Cell}
use Rattle.ring.specs.Holes.{in_quadrant, quadrant_cell, times}
use Rattle.ring.proofs.Descent.{onward, onward→, →onward, Next, next}
use Rattle.ring.proofs.Offsets.{is_offset, offset→, →offset}
use Rattle.ring.proofs.Quadrants.{is_quadrant_cell, quadrant_touch}
use Rattle.ring.proofs.Stairs.{Stairs, first, last}

-- one of two that exclude each other
one_of : (e f g : Bool) → (T e → T g) → (T f → T g) → (T g → T e ⊎ T f) → (T e → T f → ⊥) → cond e 1 0 + cond f 1 0 ≡ cond g 1 0
one_of true true g p q r n = absurd (n tt tt)
one_of true false true p q r n = refl
one_of true false false p q r n = absurd (p tt)
one_of false true true p q r n = refl
one_of false true false p q r n = absurd (q tt)
one_of false false true p q r n = elim (r tt) [ inl t ↦ absurd t | inr t ↦ absurd t ]
one_of false false false p q r n = refl

module _ {a b : ℕ} {test : ℕ → ℕ → Bool} (s : Stairs a b test) where
  -- the cells from (x, y) on are (x, y) and those from the next one on
  one_more : (x y : ℕ) (n : Next s x y) → T (test x y) → (p q : ℕ)
      → cond (is_offset x y p q) 1 0 + cond (onward s n.z n.v p q) 1 0 ≡ cond (onward s x y p q) 1 0
  one_more x y n t p q =
      one_of (is_offset x y p q) (onward s n.z n.v p q) (onward s x y p q)
      (λ u.
      let e = offset→ x y p q u in
      →onward s x y p q (record { across = omega arith; down = omega arith; on = rw (e.0, e.1) t }))
      (λ u.
      let o = onward→ s n.z n.v p q u in
      →onward s x y p q (record { across = omega (arith, o.across, n.across); down = omega (arith, o.down, n.down); on = o.on }))
      (λ u.
      elim (n.rest p q (onward→ s x y p q u)) [
        | inl e ↦ inl (→offset x y p q e.0 e.1)
        | inr e ↦ inr (→onward s n.z n.v p q (record { across = e.0; down = e.1; on = (onward→ s x y p q u).on }))
      ])
      (λ u w.
      let e = offset→ x y p q u in
      let o = onward→ s n.z n.v p q w in
      omega (arith, o.across, o.down, n.moved))

  -- from the last one on there is no other
  last_only : (p q : ℕ) → is_offset 0 b p q ≡ onward s 0 b p q
  last_only p q =
      same (is_offset 0 b p q) (onward s 0 b p q)
      (λ u.
      let e = offset→ 0 b p q u in
      →onward s 0 b p q (record { across = omega arith; down = omega arith; on = rw (e.0, e.1) (last s) }))
      (λ u. let o = onward→ s 0 b p q u in →offset 0 b p q (omega (arith, o.across)) (omega (arith, o.down, s.within p q o.on)))

  module _ (left above : Bool) (c : Cell) where
    abbrev at : ℕ → ℕ → Cell
    at x y = quadrant_cell left above c x y

    -- a chain from (x, y) to the last, which has each cell from (x, y) on once
    pub record From (x y : ℕ) : Type 0 where
      pub cells : List Cell
      pub leads : Chain (at x y) (at 0 b) cells
      pub once : (d : Cell) → times d cells ≡ cond (in_quadrant left above c d && onward s x y (wide c d) (tall c d)) 1 0

    last_from : From 0 b
    unfolding times
    last_from =
        record {
          cells = at 0 b ∷ [];
          leads = end;
          once = λ d.
              let e = is_quadrant_cell left above c 0 b d ∙ ap (λ (t : Bool). in_quadrant left above c d && t) (last_only (wide c d) (tall c d)) in
              omega (arith, ap {B = ℕ} (λ (t : Bool). cond t 1 0) e);
        }

    next_from : (x y : ℕ) (n : Next s x y) → T (test x y) → From n.z n.v → From x y
    unfolding times
    next_from x y n t f =
        record {
          cells = at x y ∷ f.cells;
          leads = step (quadrant_touch left above c x y n.z n.v n.across n.by_one n.down n.down_one n.moved) f.leads;
          once = λ d.
              ap₂ ◌+◌ (ap (λ (t : Bool). cond t 1 0) (is_quadrant_cell left above c x y d)) (f.once d)
              ∙ by (in_quadrant left above c d) (wide c d) (tall c d);
        }
      where
        by : (i : Bool) (p q : ℕ)
            → cond (i && is_offset x y p q) 1 0 + cond (i && onward s n.z n.v p q) 1 0 ≡ cond (i && onward s x y p q) 1 0
        by true p q = one_more x y n t p q
        by false p q = refl

    -- the steps left bound the search
    all_from : (m x y : ℕ) → T (test x y) → x + (b - y) ≤ m → From x y
    all_from zero x y t l =
        let e : x ≡ 0 = omega arith in
        let f : y ≡ b = omega (arith, s.within x y t) in
        rw (e, f) last_from
    all_from (suc m) x y t l =
        elim (lt_or_ge 0 (x + (b - y))) [
          | inl g ↦
              let n = next s x y t g in
              next_from x y n t (all_from m n.z n.v n.on (omega (arith, n.across, n.down, n.moved, s.within n.z n.v n.on)))
          | inr g ↦ all_from m x y t (omega arith)
        ]

    pub from_first : From a 0
    from_first = all_from (a + (b - 0)) a 0 (first s) (omega arith)

  -- from the first one on are all of them
  pub all_onward : (p q : ℕ) → onward s a 0 p q ≡ test p q
  all_onward p q =
      same (onward s a 0 p q) (test p q) (λ t. (onward→ s a 0 p q t).on)
      (λ t. →onward s a 0 p q (record { across = (s.within p q t).0; down = omega arith; on = t }))
