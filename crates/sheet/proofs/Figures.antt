-- Figures: told by kind and values, and within the limits.
use Prim.Native.Nat.{ℕ}
use mathlib.Core.Path.{◌≡◌, refl}
use mathlib.Core.List.{List}
use mathlib.Core.Bool.{Bool, true, false, cond, ◌&&◌}
use lib.Dec.{eqb}
use lib.IntN.{ℤ}
use Rattle.sheet.specs.Sheet.{coordinate, within_limits, semi_axis, axes, split, cell}
use Rattle.laws.proofs.Tests.{halves}
use Rattle.sheet.specs.Figure.{kind_of, values_of, if_figure, cell_in, number_in}
use Rattle.sheet.specs.Reply.{Answer, refuse, unless}
use Rattle.sheet.specs.declared.refusal.Refusal.{Refusal}
use Rattle.sheet.specs.declared.refusal.Refusal.TheVariants.{Coordinate, Radius, Pieces}
use Rattle.sheet.specs.declared.Figure.{Figure}
use Rattle.sheet.specs.declared.Figure.TheVariants.{Line, Circle, Ellipse, Curve, Cubic}

-- the figure that a kind and values tell
pub figure_of : ℕ → List ℤ → Figure
figure_of kind v =
    cond (eqb kind 1) (Line (cell_in v 0) (cell_in v 2))
    (cond (eqb kind 2) (Circle (cell_in v 0) (number_in v 2))
    (cond (eqb kind 3) (Ellipse (cell_in v 0) (number_in v 2) (number_in v 3))
    (cond (eqb kind 4) (Curve (cell_in v 0) (cell_in v 2) (cell_in v 4) (number_in v 6)) (Cubic (cell_in v 0) (cell_in v 2) (cell_in v 4) (cell_in v 6) (number_in v 8)))))

pub figure_of_lem : (f : Figure) → figure_of (kind_of f) (values_of f) ≡ f
unfolding figure_of
figure_of_lem (Line a b) = refl
figure_of_lem (Circle c r) = refl
figure_of_lem (Ellipse c a b) = refl
figure_of_lem (Curve p q r s) = refl
figure_of_lem (Cubic p q r t s) = refl

-- no drawing refuses the figure for its fields
abbrev pub Sound : Figure → Type 0
Sound (Line a b) = (within_limits a ≡ true) × (within_limits b ≡ true)
Sound (Circle c r) = (within_limits c ≡ true) × (axes r r ≡ true)
Sound (Ellipse c a b) = (within_limits c ≡ true) × (axes a b ≡ true)
Sound (Curve p q r s) = (within_limits p ≡ true) × (within_limits q ≡ true) × (within_limits r ≡ true) × (split s ≡ true)
Sound (Cubic p q r t s) = (within_limits p ≡ true) × (within_limits q ≡ true) × (within_limits r ≡ true) × (within_limits t ≡ true) × (split s ≡ true)

-- it is refused, or within its limits
module _ (P : Answer → Type 0) (no : (r : Refusal) → P (refuse r)) where
  by_unless : (t : Bool) (r : Refusal) (a : Answer) → (t ≡ true → P a) → P (unless t r a)
  by_unless true r a h = h refl
  by_unless false r a h = no r

  pub figure_cases : (f : Figure) (a : Answer) → (Sound f → P a) → P (if_figure f a)
  figure_cases (Line a b) n h = by_unless (within_limits a && within_limits b) Coordinate n (λ e. h (halves (within_limits a) (within_limits b) e))
  figure_cases (Circle c r) n h = by_unless (within_limits c) Coordinate _ (λ e. by_unless (axes r r) Radius n (λ d. h (e, d)))
  figure_cases (Ellipse c a b) n h = by_unless (within_limits c) Coordinate _ (λ e. by_unless (axes a b) Radius n (λ d. h (e, d)))
  figure_cases (Curve p q r s) n h =
      by_unless (within_limits p && within_limits q && within_limits r) Coordinate _
      (λ e. by_unless (split s) Pieces n
      (λ d.
      let u = halves (within_limits p && within_limits q) (within_limits r) e in
      let v = halves (within_limits p) (within_limits q) u.0 in
      h (v.0, v.1, u.1, d)))
  figure_cases (Cubic p q r t s) n h =
      by_unless (within_limits p && within_limits q && within_limits r && within_limits t) Coordinate _
      (λ e. by_unless (split s) Pieces n
      (λ d.
      let w = halves (within_limits p && within_limits q && within_limits r) (within_limits t) e in
      let u = halves (within_limits p && within_limits q) (within_limits r) w.0 in
      let v = halves (within_limits p) (within_limits q) u.0 in
      h (v.0, v.1, u.1, w.1, d)))

-- one within its limits is not refused
pub figure_passes : (f : Figure) (a : Answer) → Sound f → if_figure f a ≡ a
figure_passes (Line a b) n l = simp (l.0, l.1)
figure_passes (Circle c r) n l = simp (l.0, l.1)
figure_passes (Ellipse c a b) n l = simp (l.0, l.1)
figure_passes (Curve p q r s) n l = simp (l.0, l.1, l.2, l.3)
figure_passes (Cubic p q r t s) n l = simp (l.0, l.1, l.2, l.3, l.4)

pub cell_in_lem : (x y : ℤ) → coordinate x ≡ true → coordinate y ≡ true → within_limits (cell x y) ≡ true
unfolding within_limits
cell_in_lem x y a b = simp (a, b)

pub axes_in : (a b : ℕ) → semi_axis a b ≡ true → semi_axis b a ≡ true → axes a b ≡ true
axes_in a b e f = simp (e, f)
