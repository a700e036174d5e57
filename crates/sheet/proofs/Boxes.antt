-- The laws of `box_of`, the smallest rectangle that holds a figure's cells on the sheet.
use Prim.Native.Nat.{ℕ, zero, suc, ◌≤◌, ◌<◌}
use mathlib.Core.Path.{◌≡◌, refl, sym, subst, ap, ap₂, ◌∙◌}
use mathlib.Core.Logic.{◌⊎◌, inl, inr}
use mathlib.Core.Bool.{Bool, true, false, cond, ◌||◌, true≢false}
use native.Mathlib.Omega.{arith}
use lib.Dec.{T}
use Rattle.laws.proofs.Products.{lt_or_ge}
use Rattle.laws.proofs.Tests.{is_true, from_true, or_l, or_r, or_e}
use Rattle.sheet.specs.Sheet.{cell_of}
use Rattle.sheet.specs.Repaint.{nothing, alone, join, join_below, box_of, Holds, Within, Set, HoldsAll}
use Rattle.sheet.specs.Drawing.{only, box_all}
use Rattle.sheet.specs.declared.Cell.{Cell}
use Rattle.sheet.specs.declared.Shape.{Shape}
use Rattle.sheet.specs.declared.repaint.Rectangle.{Rectangle}

-- a rectangle that begins where a sheet may: of these nothing is the unit
pub record Low (r : Rectangle) : Type 0 where
  pub left_low : r.left ≤ 4096
  pub top_low : r.top ≤ 4096

-- equal by their sides
pub rectangle_is : (p q : Rectangle) → p.left ≡ q.left → p.top ≡ q.top → p.right ≡ q.right → p.bottom ≡ q.bottom → p ≡ q
rectangle_is p q a b c d = λ i. record { left = a i; top = b i; right = c i; bottom = d i }

-- each within the other
pub within_both : (p q : Rectangle) → Within p q → Within q p → p ≡ q
within_both p q h g =
    rectangle_is p q (omega (arith, h.0, g.0)) (omega (arith, h.2, g.2)) (omega (arith, h.1, g.1)) (omega (arith, h.3, g.3))

module _ (p q : Rectangle) where
  pub join_nothing : Low p → join p nothing ≡ p
  unfolding join
  join_nothing l = rectangle_is _ p (omega (arith, l.left_low)) (omega (arith, l.top_low)) (omega arith) (omega arith)

  pub join_comm : join p q ≡ join q p
  unfolding join
  join_comm = rectangle_is _ _ (omega arith) (omega arith) (omega arith) (omega arith)

  pub join_assoc : (r : Rectangle) → join (join p q) r ≡ join p (join q r)
  unfolding join
  join_assoc r = rectangle_is _ _ (omega arith) (omega arith) (omega arith) (omega arith)

  pub join_low : Low p → Low (join p q)
  unfolding join
  join_low l = record { left_low = omega (arith, l.left_low); top_low = omega (arith, l.top_low) }

  -- both are within it, and it is within what both are within
  pub within_left : Within p (join p q)
  unfolding join
  within_left = (omega arith, omega arith, omega arith, omega arith)

  pub within_right : Within q (join p q)
  unfolding join
  within_right = (omega arith, omega arith, omega arith, omega arith)

  pub join_within : (r : Rectangle) → Within p r → Within q r → Within (join p q) r
  unfolding join
  join_within r h g = (omega (arith, h.0, g.0), omega (arith, h.1, g.1), omega (arith, h.2, g.2), omega (arith, h.3, g.3))

pub nothing_low : Low nothing
nothing_low = record { left_low = omega arith; top_low = omega arith }

pub nothing_join : (p : Rectangle) → Low p → join nothing p ≡ p
nothing_join p l = join_comm nothing p ∙ join_nothing p p l

within_trans : (p q r : Rectangle) → Within p q → Within q r → Within p r
within_trans p q r h g = (omega (arith, h.0, g.0), omega (arith, h.1, g.1), omega (arith, h.2, g.2), omega (arith, h.3, g.3))

-- of the first n
below_low : (n : ℕ) (f : ℕ → Rectangle) → Low (join_below n f)
unfolding join_below
below_low zero f = nothing_low
below_low (suc n) f = join_low (join_below n f) (f n) (below_low n f)

below_as : (n : ℕ) (f g : ℕ → Rectangle) → ((i : ℕ) → i < n → f i ≡ g i) → join_below n f ≡ join_below n g
unfolding join_below
below_as zero f g h = refl
below_as (suc n) f g h = ap₂ join (below_as n f g (λ i l. h i (omega arith))) (h n (omega arith))

below_holds : (n : ℕ) (f : ℕ → Rectangle) (i : ℕ) → i < n → Within (f i) (join_below n f)
unfolding join_below
below_holds zero f i l = absurd (omega arith)
below_holds (suc n) f i l =
    elim (lt_or_ge i n) [
      | inl m ↦ within_trans (f i) (join_below n f) _ (below_holds n f i m) (within_left (join_below n f) (f n))
      | inr m ↦
          let e : n ≡ i = omega arith in
          subst (λ (m : ℕ). Within (f m) (join (join_below n f) (f n))) e (within_right (join_below n f) (f n))
    ]

below_within : (n : ℕ) (f : ℕ → Rectangle) (r : Rectangle) → Low r → ((i : ℕ) → i < n → Within (f i) r) → Within (join_below n f) r
unfolding join_below
below_within zero f r l h = (l.left_low, omega arith, l.top_low, omega arith)
below_within (suc n) f r l h = join_within (join_below n f) (f n) r (below_within n f r l (λ i m. h i (omega arith))) (h n (omega arith))

-- one cell of the sheet
cell_box : (Cell → Bool) → ℕ → ℕ → Rectangle
cell_box f x y = cond (f (cell_of x y)) (alone x y) nothing

row_box : Shape → (Cell → Bool) → ℕ → Rectangle
row_box k f y = join_below k.width (λ (x : ℕ). cell_box f x y)

-- a figure on the sheet
module _ (k : Shape) where
  pub box_low : (f : Cell → Bool) → Low (box_of k f)
  unfolding box_of
  box_low f = below_low k.height _

  -- figures that agree on the sheet
  pub box_as : (f g : Cell → Bool) → ((x y : ℕ) → x < k.width → y < k.height → f (cell_of x y) ≡ g (cell_of x y)) → box_of k f ≡ box_of k g
  unfolding box_of
  box_as f g h =
      below_as k.height _ _ (λ y b. below_as k.width _ _ (λ x a. ap (λ (t : Bool). cond t (alone x y) nothing) (h x y a b)))

  -- it holds each of the figure's cells
  pub box_holds : (f : Cell → Bool) → HoldsAll k f (box_of k f)
  unfolding box_of cell_box row_box
  box_holds f x y m =
      let one : Within (cell_box f x y) (row_box k f y) = below_holds k.width (λ (x : ℕ). cell_box f x y) x m.column in
      let all : Within (row_box k f y) (box_of k f) = below_holds k.height (row_box k f) y m.row in
      let h = within_trans (cell_box f x y) (row_box k f y) (box_of k f) one all in
      let e : cell_box f x y ≡ alone x y = simp m.marked in
      let w : Within (alone x y) (box_of k f) = subst (λ (r : Rectangle). Within r (box_of k f)) e h in
      (w.0, omega (arith, w.1), w.2, omega (arith, w.3))

  -- and is within every one that does
  pub box_within : (f : Cell → Bool) (r : Rectangle) → Low r → HoldsAll k f r → Within (box_of k f) r
  unfolding box_of cell_box row_box
  box_within f r l h =
      below_within k.height (row_box k f) r l (λ y b. below_within k.width (λ (x : ℕ). cell_box f x y) r l (λ x a. by x y a b (f (cell_of x y)) refl))
    where
      by : (x y : ℕ) → x < k.width → y < k.height → (t : Bool) → f (cell_of x y) ≡ t → Within (cond t (alone x y) nothing) r
      by x y a b true e = let g = h x y (record { column = a; row = b; marked = e }) in (g.0, omega (arith, g.1), g.2, omega (arith, g.3))
      by x y a b false e = (l.left_low, omega arith, l.top_low, omega arith)

  -- so it is the one that holds them all and has one of them at each side
  pub box_is : (f : Cell → Bool) (r : Rectangle) → Low r → HoldsAll k f r → Within r (box_of k f) → box_of k f ≡ r
  box_is f r l h g = within_both (box_of k f) r (box_within f r l h) g

  -- a figure with no cell on the sheet
  pub box_none : (f : Cell → Bool) → ((x y : ℕ) → x < k.width → y < k.height → f (cell_of x y) ≡ false) → box_of k f ≡ nothing
  box_none f h =
      box_is f nothing nothing_low (λ x y m. absurd (true≢false (sym m.marked ∙ h x y m.column m.row)))
      ((box_low f).left_low, omega arith, (box_low f).top_low, omega arith)

  -- two figures together
  pub box_then : (f g : Cell → Bool) → box_of k (λ (c : Cell). f c || g c) ≡ join (box_of k f) (box_of k g)
  box_then f g =
      let both : Cell → Bool = λ (c : Cell). f c || g c in
      let all = box_holds both in
      box_is both (join (box_of k f) (box_of k g)) (join_low (box_of k f) (box_of k g) (box_low f))
      (λ x y m. held x y m (or_e (f (cell_of x y)) (g (cell_of x y)) (from_true _ m.marked)))
      (join_within (box_of k f) (box_of k g) (box_of k both)
      (box_within f (box_of k both) (box_low both) (λ x y m. all x y (record { column = m.column; row = m.row; marked = is_true _ (or_l (f (cell_of x y)) (g (cell_of x y)) (from_true _ m.marked)) })))
      (box_within g (box_of k both) (box_low both) (λ x y m. all x y (record { column = m.column; row = m.row; marked = is_true _ (or_r (f (cell_of x y)) (g (cell_of x y)) (from_true _ m.marked)) }))))
    where
      held : (x y : ℕ) → Set k (λ (c : Cell). f c || g c) x y → T (f (cell_of x y)) ⊎ T (g (cell_of x y)) → Holds (join (box_of k f) (box_of k g)) x y
      held x y m (inl t) =
          let h = box_holds f x y (record { column = m.column; row = m.row; marked = is_true _ t }) in
          let w = within_left (box_of k f) (box_of k g) in
          (omega (arith, h.0, w.0), omega (arith, h.1, w.1), omega (arith, h.2, w.2), omega (arith, h.3, w.3))
      held x y m (inr t) =
          let h = box_holds g x y (record { column = m.column; row = m.row; marked = is_true _ t }) in
          let w = within_right (box_of k f) (box_of k g) in
          (omega (arith, h.0, w.0), omega (arith, h.1, w.1), omega (arith, h.2, w.2), omega (arith, h.3, w.3))

-- one figure alone
pub box_only : (k : Shape) (ink : ℕ) (f : Cell → Bool) → box_all k (only ink f) ≡ box_of k f
unfolding box_all
box_only k ink f = join_nothing (box_of k f) nothing (box_low k f)
