-- Document 02, K4: an ellipse has no holes.
use Rattle.std.specs.Prelude.{ℕ, ◌+◌, ◌≤◌, ◌≡◌, List, [], ◌∷◌, Bool, true, cond, ◌&&◌, leb, ℤ, pos, nat_abs, ◌+ℤ◌, ◌-ℤ◌}
use Rattle.std.specs.Int.Signed.{le_z}
use Rattle.sheet.specs.Chain.{Chain}
use Rattle.sheet.specs.Sheet.{cell, is_cell}
use Rattle.sheet.specs.declared.Cell.{Cell}
use Rattle.ring.specs.Ring.{ellipse_rule, on_ellipse}

-- one of the two sides of a coordinate, with the coordinate itself, and the place n from it on that side
abbrev pub on_side : Bool → ℤ → ℤ → Bool
on_side lower z v = cond lower (le_z v z) (le_z z v)

abbrev pub off_by : Bool → ℤ → ℕ → ℤ
off_by lower z n = cond lower (z -ℤ pos n) (z +ℤ pos n)

-- one of the four quadrants about a centre, and its cell (x, y)
abbrev pub in_quadrant : Bool → Bool → Cell → Cell → Bool
in_quadrant left above c d = on_side left c.x d.x && on_side above c.y d.y

abbrev pub quadrant_cell : Bool → Bool → Cell → ℕ → ℕ → Cell
quadrant_cell left above c x y = cell (off_by left c.x x) (off_by above c.y y)

-- how often a list has a cell
unfoldable pub times : Cell → List Cell → ℕ
times d [] = 0
times d (c ∷ cells) = cond (is_cell c d) 1 0 + times d cells

-- The cells of one quadrant form a chain ..
pub record OneChain (left above : Bool) (c : Cell) (a b : ℕ) : Type 0 where
  pub cells : List Cell
  -- .. from (a, 0) to (0, b) in which neighbours touch by side or corner; it has each of them once, and no other cell
  pub leads : Chain (quadrant_cell left above c a 0) (quadrant_cell left above c 0 b) cells
  pub once : (d : Cell) → times d cells ≡ cond (in_quadrant left above c d && on_ellipse c a b d) 1 0

-- the numbers that pass a test are those from the least to the most
pub record Interval (test : ℕ → Bool) : Type 0 where
  pub least : ℕ
  pub most : ℕ
  pub some : least ≤ most
  pub between : (n : ℕ) → test n ≡ (leb least n && leb n most)

pub record NoHoles (c : Cell) (a b : ℕ) : Type 0 where
  -- a cell in every column from −a to a and every row from −b to b
  pub every_column : (x : ℤ) → nat_abs x ≤ a → (y : ℤ) × (on_ellipse c a b (cell (c.x +ℤ x) (c.y +ℤ y)) ≡ true)
  pub every_row : (y : ℤ) → nat_abs y ≤ b → (x : ℤ) × (on_ellipse c a b (cell (c.x +ℤ x) (c.y +ℤ y)) ≡ true)
  -- the cells of each quadrant form a chain
  pub chain : (left above : Bool) → OneChain left above c a b
  -- in each row the cells of one quadrant are one interval, and so in each column
  pub row_interval : (y : ℕ) → y ≤ b → Interval (λ (x : ℕ). ellipse_rule a b x y)
  pub column_interval : (x : ℕ) → x ≤ a → Interval (λ (y : ℕ). ellipse_rule a b x y)
