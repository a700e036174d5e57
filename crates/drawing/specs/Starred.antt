-- Document 01, "Checked examples": the starred ones, of all figures, in one table; and examples of our own in the same form.
use Rattle.std.specs.Prelude.{ℕ, zero, suc, ◌+◌, ◌^◌, ◌≤◌, ◌≡◌, List, [], ◌∷◌, ◌++◌, Bool, false, cond, ◌&&◌, ◌||◌, length, T, eqb, ℤ, pos, negsuc, neg_ℤ, nat_abs}
use Rattle.sheet.specs.Sheet.{cell, cell_of}
use Rattle.sheet.specs.declared.Cell.{Cell}
use Rattle.line.specs.Listing.{cells_of, listing}
use Rattle.ring.specs.Ring.{on_ellipse}
use Rattle.ring.specs.Circle.{on_circle}
use Rattle.curve.specs.Rule.{point_at}

-- a line by its ends and the cells listed; a ring by how far it goes at most, its rule, the cells (x, y) that it is mirrored from, and
-- how many it has; a curve by its control points, s and its points
pub data Example : Type 0 where
  line : (a b : Cell) → List Cell → Example
  ring : ℕ → (Cell → Bool) → List Cell → ℕ → Example
  curve : List Cell → ℕ → List Cell → Example

-- the numbers −n to n, and the cells of their rows
unfoldable pub span : ℕ → List ℤ
span zero = pos 0 ∷ []
span (suc n) = negsuc n ∷ (span n ++ (pos (suc n) ∷ []))

unfoldable pub row : ℤ → List ℤ → List Cell
row y [] = []
row y (x ∷ xs) = cell x y ∷ row y xs

unfoldable pub rows : List ℤ → List ℤ → List Cell
rows xs [] = []
rows xs (y ∷ ys) = row y xs ++ rows xs ys

-- the cells with coordinates −n to n that a figure holds
unfoldable pub among : List Cell → (Cell → Bool) → List Cell
among [] figure = []
among (c ∷ cs) figure = cond (figure c) (c ∷ among cs figure) (among cs figure)

abbrev pub near : ℕ → (Cell → Bool) → List Cell
near n = among (rows (span n) (span n))

-- the cells (±x, ±y) from a list of (x, y)
unfoldable pub mirrored : List Cell → Cell → Bool
mirrored [] d = false
mirrored (c ∷ cs) d = (eqb (nat_abs d.x) (nat_abs c.x) && eqb (nat_abs d.y) (nat_abs c.y)) || mirrored cs d

-- a line lists just these; a ring has no cell further away, just those mirrored from these, and so many; a curve has just these points
abbrev pub Holds : Example → Type 0
Holds (line a b cells) = listing a b ≡ cells
Holds (ring limit f from n) =
    ((d : Cell) → T (f d) → (nat_abs d.x ≤ limit) × (nat_abs d.y ≤ limit))
    × (near limit f ≡ near limit (mirrored from))
    × (length (near limit f) ≡ n)
Holds (curve ps s points) = cells_of (point_at ps (2 ^ s)) (2 ^ s + 1) ≡ points

pub data AllHold : (es : List Example) → Type 0 where
  none : AllHold []
  also : {e : Example} {es : List Example} → Holds e → AllHold es → AllHold (e ∷ es)

-- −1; the cell (x, 0)
abbrev pub less : ℤ
less = neg_ℤ (pos 1)

abbrev pub level : ℤ → Cell
level x = cell x (pos 0)

-- (2, −1)
abbrev pub above : Cell
above = cell (pos 2) less

-- the cells that the circles of radius 0, 2 and 3, with x and y exchanged too, and the ellipse are mirrored from
abbrev pub from0 : List Cell
from0 = cell_of 0 0 ∷ []

abbrev pub from2 : List Cell
from2 = cell_of 0 2 ∷ cell_of 1 2 ∷ cell_of 2 0 ∷ cell_of 2 1 ∷ []

abbrev pub from3 : List Cell
from3 = cell_of 0 3 ∷ cell_of 1 3 ∷ cell_of 2 2 ∷ cell_of 3 0 ∷ cell_of 3 1 ∷ []

abbrev pub from32 : List Cell
from32 = cell_of 0 2 ∷ cell_of 1 2 ∷ cell_of 2 1 ∷ cell_of 3 1 ∷ cell_of 3 0 ∷ []

unfoldable pub starred_examples : List Example
starred_examples =
    line (cell_of 0 0) (cell_of 2 1) (cell_of 0 0 ∷ cell_of 1 1 ∷ cell_of 2 1 ∷ [])
    ∷ line (cell_of 2 1) (cell_of 0 0) (cell_of 2 1 ∷ cell_of 1 1 ∷ cell_of 0 0 ∷ [])
    ∷ line (cell_of 0 0) (cell_of 5 2) (cell_of 0 0 ∷ cell_of 1 0 ∷ cell_of 2 1 ∷ cell_of 3 1 ∷ cell_of 4 2 ∷ cell_of 5 2 ∷ [])
    ∷ line (cell_of 0 0) above (cell_of 0 0 ∷ cell_of 1 0 ∷ above ∷ [])
    ∷ line (cell_of 0 0) (cell_of 1 2) (cell_of 0 0 ∷ cell_of 1 1 ∷ cell_of 1 2 ∷ [])
    ∷ line (cell_of 4 4) (cell_of 4 4) (cell_of 4 4 ∷ [])
    ∷ ring 4 (on_circle (cell_of 0 0) 0) from0 1
    ∷ ring 4 (on_circle (cell_of 0 0) 2) from2 12
    ∷ ring 4 (on_circle (cell_of 0 0) 3) from3 16
    ∷ ring 4 (on_ellipse (cell_of 0 0) 3 2) from32 16
    ∷ curve (cell_of 0 0 ∷ cell_of 2 4 ∷ cell_of 4 0 ∷ []) 1 (cell_of 0 0 ∷ cell_of 2 2 ∷ cell_of 4 0 ∷ [])
    ∷ curve (level less ∷ level less ∷ level (pos 0) ∷ []) 1 (level less ∷ level less ∷ level (pos 0) ∷ [])
    ∷ []

-- Document 02, K4: the ring that had holes, 10 by 1, has 38 cells, from (0,1) to (8,1), (9,0) and (10,0)
abbrev pub from101 : List Cell
from101 =
    cell_of 0 1 ∷ cell_of 1 1 ∷ cell_of 2 1 ∷ cell_of 3 1 ∷ cell_of 4 1 ∷ cell_of 5 1 ∷ cell_of 6 1 ∷ cell_of 7 1 ∷ cell_of 8 1
    ∷ cell_of 9 0 ∷ cell_of 10 0 ∷ []

-- Document 02, K13: cubics, one with a half below zero that is rounded up and less than a half that is not. Source document 001 prints the
-- polynomial 32ht³ − 48ht² + 18ht − h of the control values −h, 5h, −5h and h: at t = 0, 1/4, .. it is −h, h, 0, −h and h, here for h = 3.
abbrev pub minus : ℕ → ℤ
minus n = neg_ℤ (pos n)

abbrev pub shaped : List Cell
shaped = cell (minus 3) (pos 0) ∷ cell_of 15 4 ∷ cell (minus 15) (pos 8) ∷ cell_of 3 12 ∷ []

-- and K10: an ellipse with both axes 0 is one cell
unfoldable pub own_examples : List Example
own_examples =
    ring 10 (on_ellipse (cell_of 0 0) 10 1) from101 38
    ∷ ring 4 (on_ellipse (cell_of 0 0) 0 0) from0 1
    ∷ curve (cell_of 0 0 ∷ cell_of 0 4 ∷ cell_of 4 4 ∷ cell_of 4 0 ∷ []) 1 (cell_of 0 0 ∷ cell_of 2 3 ∷ cell_of 4 0 ∷ [])
    ∷ curve (cell less less ∷ cell less less ∷ cell (pos 0) less ∷ cell_of 0 0 ∷ []) 1 (cell less less ∷ cell (pos 0) less ∷ cell_of 0 0 ∷ [])
    ∷ curve shaped 2 (cell (minus 3) (pos 0) ∷ cell_of 3 3 ∷ cell_of 0 6 ∷ cell (minus 3) (pos 9) ∷ cell_of 3 12 ∷ [])
    ∷ []
