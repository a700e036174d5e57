-- Document 01, "Record file", and document 02, K13: a figure's kind, its values in the order of its record, and its refusals.
use Rattle.std.specs.Prelude.{ℕ, ◌+◌, List, [], ◌∷◌, ◌++◌, ◌&&◌, ℤ, pos, nat_abs, get_or}
use Rattle.sheet.specs.Sheet.{cell, within_limits, axes, split}
use Rattle.sheet.specs.Reply.{Answer, unless}
use Rattle.sheet.specs.declared.refusal.Refusal.TheVariants.{Coordinate, Radius, Pieces}
use Rattle.sheet.specs.declared.Cell.{Cell}
use Rattle.sheet.specs.declared.Figure.{Figure}
use Rattle.sheet.specs.declared.Figure.TheVariants.{Line, Circle, Ellipse, Curve, Cubic}

abbrev pub kind_of : Figure → ℕ
kind_of (Line a b) = 1
kind_of (Circle c r) = 2
kind_of (Ellipse c a b) = 3
kind_of (Curve p q r s) = 4
kind_of (Cubic p q r t s) = 5

-- the values that tell a cell, and a figure
abbrev pub cell_values : Cell → List ℤ
cell_values c = c.x ∷ c.y ∷ []

abbrev pub values_of : Figure → List ℤ
values_of (Line a b) = cell_values a ++ cell_values b
values_of (Circle c r) = cell_values c ++ pos r ∷ []
values_of (Ellipse c a b) = cell_values c ++ pos a ∷ pos b ∷ []
values_of (Curve p q r s) = cell_values p ++ cell_values q ++ cell_values r ++ pos s ∷ []
values_of (Cubic p q r t s) = cell_values p ++ cell_values q ++ cell_values r ++ cell_values t ++ pos s ∷ []

-- What a figure is refused for, whatever it is asked for: 2, then 3 for a circle or an ellipse and 4 for a curve or a cubic; else what follows.
abbrev pub if_figure : Figure → Answer → Answer
if_figure (Line a b) next = unless (within_limits a && within_limits b) Coordinate next
if_figure (Circle c r) next = unless (within_limits c) Coordinate (unless (axes r r) Radius next)
if_figure (Ellipse c a b) next = unless (within_limits c) Coordinate (unless (axes a b) Radius next)
if_figure (Curve p q r s) next = unless (within_limits p && within_limits q && within_limits r) Coordinate (unless (split s) Pieces next)
if_figure (Cubic p q r t s) next = unless (within_limits p && within_limits q && within_limits r && within_limits t) Coordinate (unless (split s) Pieces next)

-- and back: the cell of a value and the next, and a value that is no coordinate
abbrev pub cell_in : List ℤ → ℕ → Cell
cell_in v n = cell (get_or v n (pos 0)) (get_or v (n + 1) (pos 0))

abbrev pub number_in : List ℤ → ℕ → ℕ
number_in v n = nat_abs (get_or v n (pos 0))
