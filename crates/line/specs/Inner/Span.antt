-- The part of a course that is on the sheet, as a range of n.
use Rattle.std.specs.Prelude.{ℕ, ◌+◌, ◌-◌, ◌*◌, ◌<◌, ◌≤◌, min, max, Bool, true, cond, ◌⊎◌, [], ◌∷◌, pos}
use Rattle.sheet.specs.Sheet.{cells_on}
use Rattle.sheet.specs.Repaint.{box_of}
use Rattle.sheet.specs.Reply.{Answer, done, with_box}
use Rattle.sheet.specs.declared.Cell.{Cell}
use Rattle.sheet.specs.declared.Shape.{Shape}
use Rattle.sheet.specs.declared.Spot.{Spot}
use Rattle.sheet.specs.declared.repaint.Rectangle.{Rectangle}
use Rattle.line.specs.Rule.{rise}
use Rattle.line.specs.Inner.Course.{along_x, along_y, spot_at}
use Rattle.line.specs.declared.Path.{Path}

-- steps from m, up or down, along an axis on which the sheet has `size` cells: the first that is not before the sheet; the first past it
abbrev pub enters : Bool → ℕ → ℕ → ℕ
enters up m size = cond up (65536 - m) (m - (65535 + size))

abbrev pub leaves : Bool → ℕ → ℕ → ℕ
leaves up m size = cond up (65536 + size - m) (m - 65535)

-- r is the least n ≤ l at which the shorter extent has come k steps, and l + 1 where there is none
pub record FirstAt (k l s r : ℕ) : Type 0 where
  pub low : r ≤ l + 1
  pub from : (n : ℕ) → n ≤ l → r ≤ n → k ≤ rise l s n
  pub until : (n : ℕ) → n ≤ l → n < r → rise l s n < k

-- steps of the nth spot along x and along y
abbrev pub steps_x : Path → ℕ → ℕ
steps_x c n = along_x c.steep n (rise c.long c.short n)

abbrev pub steps_y : Path → ℕ → ℕ
steps_y c n = along_y c.steep n (rise c.long c.short n)

-- r ≤ n just where the nth spot is not before the sheet, along x and along y
pub record Enters (k : Shape) (c : Path) (r : ℕ) : Type 0 where
  pub x_in : (n : ℕ) → n ≤ c.long → r ≤ n → enters c.right c.x k.width ≤ steps_x c n
  pub y_in : (n : ℕ) → n ≤ c.long → r ≤ n → enters true c.y k.height ≤ steps_y c n
  pub out : (n : ℕ) → n ≤ c.long → n < r → (steps_x c n < enters c.right c.x k.width) ⊎ (steps_y c n < enters true c.y k.height)

-- n < r just where the nth spot is not past the sheet
pub record Leaves (k : Shape) (c : Path) (r : ℕ) : Type 0 where
  pub low : r ≤ c.long + 1
  pub x_in : (n : ℕ) → n ≤ c.long → n < r → steps_x c n < leaves c.right c.x k.width
  pub y_in : (n : ℕ) → n ≤ c.long → n < r → steps_y c n < leaves true c.y k.height
  pub out : (n : ℕ) → n ≤ c.long → r ≤ n → (leaves c.right c.x k.width ≤ steps_x c n) ⊎ (leaves true c.y k.height ≤ steps_y c n)

-- a spot on the sheet
pub record On (k : Shape) (p : Spot) : Type 0 where
  pub left : 65536 ≤ p.x
  pub top : 65536 ≤ p.y
  pub right : p.x < 65536 + k.width
  pub bottom : p.y < 65536 + k.height

-- the spots on the sheet are those of n in first .. past − 1
pub record Spans (k : Shape) (c : Path) (first past : ℕ) : Type 0 where
  pub low : past ≤ c.long + 1
  pub on : (n : ℕ) → first ≤ n → n < past → On k (spot_at c n)
  pub before : (n : ℕ) → n ≤ c.long → n < first → On k (spot_at c n) → ⊥
  pub after : (n : ℕ) → n ≤ c.long → past ≤ n → On k (spot_at c n) → ⊥

-- the byte of a spot on the sheet
abbrev pub byte_of : Shape → Spot → ℕ
byte_of k p = (p.y - 65536) * k.pitch + (p.x - 65536)

-- what a step along the longer extent alone adds to a byte's place, and a step along both, modulo 2^64
abbrev pub alone_by : Bool → Bool → ℕ → ℕ
alone_by right steep pitch = cond steep pitch (cond right 1 18446744073709551615)

abbrev pub both_by : Bool → ℕ → ℕ
both_by right pitch = cond right (pitch + 1) (pitch - 1)

-- the rectangle between two spots on the sheet
unfoldable pub spanning : Spot → Spot → Rectangle
spanning p q =
    record {
      left = min p.x q.x - 65536;
      top = min p.y q.y - 65536;
      right = max p.x q.x - 65535;
      bottom = max p.y q.y - 65535;
    }

-- what is told of a line: the number of its cells on the sheet, and their rectangle
abbrev pub told_cells : Shape → (Cell → Bool) → Answer
told_cells k figure = with_box (done (pos (cells_on k figure) ∷ [])) (box_of k figure)
