-- Listing one coordinate of a line by a running sum.
use Rattle.std.specs.Prelude.{ℕ, zero, suc, ◌+◌, ◌-◌, ◌*◌, ◌/◌, ◌≤◌, Bool, cond, List, [], ◌∷◌, ℤ}
use Rattle.sheet.specs.Inner.{Moved, unmoved, unmoved_cell}
use Rattle.sheet.specs.declared.Cell.{Cell}
use Rattle.line.specs.Inner.Course.{stepped, spot_at}
use Rattle.line.specs.Inner.Fixed.{gone}
use Rattle.line.specs.declared.Path.{Path}

-- the first n places hold g 0, .., g (n − 1), and the others what stood there
unfoldable pub over : (ℕ → ℤ) → ℕ → List ℤ → List ℤ
over g zero s = s
over g (suc n) [] = []
over g (suc n) (v ∷ s) = g 0 ∷ over (λ (k : ℕ). g (suc k)) n s

-- which cell of a line, counted from its lesser end, stands at the ith place: the first named end is the lesser or not
abbrev pub number_at : Bool → ℕ → ℕ → ℕ
number_at first l i = cond first i (l - i)

-- the coordinate that far from m, up or down, in parts of 2^32
abbrev pub reached : Bool → ℕ → ℕ → ℕ
reached up m g = cond up (m * 4294967296 + g) (m * 4294967296 + 4294967295 - g)

-- the coordinate at the ith place, on a line from m with the longer extent l, f parts from cell to cell
unfoldable pub ith_along : Bool → Bool → ℕ → ℕ → ℕ → ℕ → ℤ
ith_along first up m l f i = unmoved (stepped up m (gone l f (number_at first l i) / 4294967296))

-- what is promised of such a line
pub record Bounded (m l f : ℕ) : Type 0 where
  pub start : Moved m
  pub limit : l ≤ 32767
  pub slow : f ≤ 4294967296

-- the cell at the ith place, of a course
unfoldable pub course_cell : Bool → Path → ℕ → Cell
course_cell first c i = unmoved_cell (spot_at c (number_at first c.long i))
