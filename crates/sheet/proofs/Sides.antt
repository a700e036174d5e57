-- The rectangle over a figure's cells has one of them at each side.
use Prim.Native.Nat.{ℕ, zero, suc, ◌≤◌, ◌<◌, min, max}
use mathlib.Core.Path.{◌≡◌, refl, ap, ◌∙◌}
use mathlib.Core.Logic.{◌⊎◌, inl, inr}
use mathlib.Core.Bool.{Bool, true, false, cond}
use native.Mathlib.Omega.{arith}
use Rattle.laws.proofs.Products.{lt_or_ge}
use Rattle.sheet.specs.Sheet.{cell_of}
use Rattle.sheet.specs.Repaint.{nothing, alone, join, join_below, box_of, Set, Reaches}
use Rattle.sheet.specs.declared.Cell.{Cell}
use Rattle.sheet.specs.declared.Shape.{Shape}
use Rattle.sheet.specs.declared.repaint.Rectangle.{Rectangle}
use Rattle.sheet.proofs.Boxes.{box_holds}

-- one of the first n that has the side of them all
record Among (side : Rectangle → ℕ) (n : ℕ) (f : ℕ → Rectangle) : Type 0 where
  place : ℕ
  below : place < n
  has : side (join_below n f) ≡ side (f place)

-- a side that joining takes from one of the two
module _ (side : Rectangle → ℕ) (chosen : (p q : Rectangle) → (side (join p q) ≡ side p) ⊎ (side (join p q) ≡ side q)) where
  below_side : (n : ℕ) (f : ℕ → Rectangle) → (side (join_below n f) ≡ side nothing) ⊎ Among side n f
  unfolding join_below
  below_side zero f = inl refl
  below_side (suc n) f =
      elim (chosen (join_below n f) (f n)) [
        | inl e ↦ elim (below_side n f) [
          | inl g ↦ inl (e ∙ g)
          | inr g ↦ inr (record { place = g.place; below = omega (arith, g.below); has = e ∙ g.has })
        ]
        | inr e ↦ inr (record { place = n; below = omega arith; has = e })
      ]

  -- that of no cell, or of one
  box_side : (k : Shape) (f : Cell → Bool) → (side (box_of k f) ≡ side nothing) ⊎ Reaches k f side
  unfolding box_of
  box_side k f =
      elim (below_side k.height row) [
        | inl e ↦ inl e
        | inr y ↦ elim (below_side k.width (λ (x : ℕ). one x y.place)) [
          | inl e ↦ inl (y.has ∙ e)
          | inr x ↦ by x.place y.place x.below y.below (y.has ∙ x.has) (f (cell_of x.place y.place)) refl
        ]
      ]
    where
      one : ℕ → ℕ → Rectangle
      one x y = cond (f (cell_of x y)) (alone x y) nothing

      row : ℕ → Rectangle
      row y = join_below k.width (λ (x : ℕ). one x y)

      by : (x y : ℕ) → x < k.width → y < k.height → side (box_of k f) ≡ side (one x y) → (t : Bool) → f (cell_of x y) ≡ t
          → (side (box_of k f) ≡ side nothing) ⊎ Reaches k f side
      by x y a b e true m = inr (record { x = x; y = y; set = record { column = a; row = b; marked = m }; ends = e ∙ ap (λ (t : Bool). side (cond t (alone x y) nothing)) m })
      by x y a b e false m = inl (e ∙ ap (λ (t : Bool). side (cond t (alone x y) nothing)) m)

  -- of one, where its side is not that of none
  some_side : (k : Shape) (f : Cell → Bool) → (side (box_of k f) ≡ side nothing → ⊥) → Reaches k f side
  some_side k f h = elim (box_side k f) [ inl e ↦ absurd (h e) | inr r ↦ r ]

min_of : (a b : ℕ) → (min a b ≡ a) ⊎ (min a b ≡ b)
min_of a b = elim (lt_or_ge a b) [ inl l ↦ inl (omega arith) | inr l ↦ inr (omega arith) ]

max_of : (a b : ℕ) → (max a b ≡ a) ⊎ (max a b ≡ b)
max_of a b = elim (lt_or_ge a b) [ inl l ↦ inr (omega arith) | inr l ↦ inl (omega arith) ]

module _ (k : Shape) (f : Cell → Bool) (w : k.width ≤ 4096) (h : k.height ≤ 4096) (x y : ℕ) (m : Set k f x y) where
  pub left_side : Reaches k f (λ (r : Rectangle). r.left)
  unfolding join
  left_side = some_side (λ (r : Rectangle). r.left) (λ p q. min_of p.left q.left) k f (λ e. omega (arith, (box_holds k f x y m).0, m.column))

  pub top_side : Reaches k f (λ (r : Rectangle). r.top)
  unfolding join
  top_side = some_side (λ (r : Rectangle). r.top) (λ p q. min_of p.top q.top) k f (λ e. omega (arith, (box_holds k f x y m).2, m.row))

  pub right_side : Reaches k f (λ (r : Rectangle). r.right)
  unfolding join
  right_side = some_side (λ (r : Rectangle). r.right) (λ p q. max_of p.right q.right) k f (λ e. omega (arith, (box_holds k f x y m).1))

  pub bottom_side : Reaches k f (λ (r : Rectangle). r.bottom)
  unfolding join
  bottom_side = some_side (λ (r : Rectangle). r.bottom) (λ p q. max_of p.bottom q.bottom) k f (λ e. omega (arith, (box_holds k f x y m).3))
