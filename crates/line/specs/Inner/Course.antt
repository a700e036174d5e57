-- A line on the moved plane, as the code walks it.
use Rattle.std.specs.Prelude.{ℕ, ◌+◌, ◌-◌, ◌≤◌, Bool, cond, ◌&&◌, ◌||◌, ◌==◌, nat_le, nat_lt}
use Rattle.laws.specs.Below.{any}
use Rattle.sheet.specs.Sheet.{is_cell}
use Rattle.sheet.specs.Inner.{Moved, unmoved_cell}
use Rattle.sheet.specs.declared.Cell.{Cell}
use Rattle.sheet.specs.declared.Spot.{Spot}
use Rattle.line.specs.Rule.{rise, longer, shorter}
use Rattle.line.specs.declared.Path.{Path}

-- how far two numbers are apart
abbrev pub gap : ℕ → ℕ → ℕ
gap m n = (m - n) + (n - m)

-- k steps from m, up or down
abbrev pub stepped : Bool → ℕ → ℕ → ℕ
stepped up m k = cond up (m + k) (m - k)

-- steps along x and along y, of n along the longer extent and q along the shorter
abbrev pub along_x : Bool → ℕ → ℕ → ℕ
along_x steep n q = cond steep q n

abbrev pub along_y : Bool → ℕ → ℕ → ℕ
along_y steep n q = cond steep n q

-- the nth spot of a course
unfoldable pub spot_at : Path → ℕ → Spot
spot_at c n =
    record {
      x = stepped c.right c.x (along_x c.steep n (rise c.long c.short n));
      y = c.y + along_y c.steep n (rise c.long c.short n);
    }

-- the lesser of two spots; the course from the lesser to the other, and whichever is named first
abbrev pub lesser_spot : Spot → Spot → Bool
lesser_spot p q = nat_lt p.y q.y || (p.y == q.y && nat_le p.x q.x)

abbrev pub path_from : Spot → Spot → Path
path_from p q =
    let w = gap p.x q.x in
    let t = gap p.y q.y in
    record { x = p.x; y = p.y; right = nat_le p.x q.x; steep = nat_lt w t; long = longer w t; short = shorter w t }

unfoldable pub path_between : Spot → Spot → Path
path_between p q = cond (lesser_spot p q) (path_from p q) (path_from q p)

-- what holds of the path of a course
pub record Runs (c : Path) : Type 0 where
  pub start_x : Moved c.x
  pub start_y : Moved c.y
  pub shorter : c.short ≤ c.long
  pub limit : c.long ≤ 32767

-- a spot that stands for a cell within the limits
pub record IsMoved (p : Spot) : Type 0 where
  pub x : Moved p.x
  pub y : Moved p.y

-- the first n cells of a course
unfoldable pub first_cells : Path → ℕ → Cell → Bool
first_cells course n c = any n (λ (i : ℕ). is_cell (unmoved_cell (spot_at course i)) c)
