-- The moved plane, on which the code works: a coordinate z is held as z + 65,536, so that none is below 0, nor one of them less a radius.
use Rattle.std.specs.Prelude.{ℕ, ◌≤◌, ◌≡◌, List, Bool, cond, ◌&&◌, length, set, ℤ, pos, nat_abs, ◌+ℤ◌, ◌-ℤ◌}
use Rattle.sheet.specs.Sheet.{sized, bytes, sliced, on_sheet, place, coordinate}
use Rattle.sheet.specs.Repaint.{alone, join}
use Rattle.sheet.specs.declared.Cell.{Cell}
use Rattle.sheet.specs.declared.Shape.{Shape}
use Rattle.sheet.specs.declared.Spot.{Spot}
use Rattle.sheet.specs.declared.repaint.Rectangle.{Rectangle}

-- a coordinate within the limits, moved; 0 for any other number
unfoldable pub moved : ℤ → ℕ
moved z = cond (coordinate z) (nat_abs (z +ℤ pos 65536)) 0

-- the number that m stands for
abbrev pub unmoved : ℕ → ℤ
unmoved m = pos m -ℤ pos 65536

-- a cell, moved, and the cell that a spot stands for
abbrev pub moved_cell : Cell → Spot
moved_cell c = record { x = moved c.x; y = moved c.y }

abbrev pub unmoved_cell : Spot → Cell
unmoved_cell p = record { x = unmoved p.x; y = unmoved p.y }

-- the coordinate that m stands for, where that is within the limits; 0 for any other m
unfoldable pub lowered : ℕ → ℤ
lowered m = cond (coordinate (unmoved m)) (unmoved m) (pos 0)

-- the same of cells
abbrev pub lowered_cell : Spot → Cell
lowered_cell p = record { x = lowered p.x; y = lowered p.y }

-- what inner functions are promised: a coordinate within the limits, moved
pub record Moved (m : ℕ) : Type 0 where
  pub least : 49152 ≤ m
  pub most : m ≤ 81919

-- no two rows share a byte
abbrev pub Disjoint : Shape → Type 0
Disjoint k = k.width ≤ k.pitch

-- a slice of n bytes is a sheet of the shape
unfoldable pub fits : Shape → ℕ → Bool
fits k n = sized k && sliced k n

-- and that by its parts
pub record Sheet (k : Shape) (s : List ℕ) : Type 0 where
  pub area : length s ≡ bytes k
  pub broad : 1 ≤ k.width
  pub wide : k.width ≤ 4096
  pub deep : 1 ≤ k.height
  pub high : k.height ≤ 4096
  pub disjoint : Disjoint k
  pub far : k.pitch ≤ 8192

-- the bytes with a cell's own set to the ink, where the cell is on the sheet
unfoldable pub inked_at : Shape → ℕ → Cell → List ℕ → List ℕ
inked_at k ink c s = cond (on_sheet k c) (set s (place k c) ink) s

-- and the rectangle with the cell in it, where the cell is on the sheet
unfoldable pub joined_at : Shape → Cell → Rectangle → Rectangle
joined_at k c r = cond (on_sheet k c) (join r (alone (nat_abs c.x) (nat_abs c.y))) r
