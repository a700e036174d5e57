-- Document 02, K5: padding, and sheets that differ in their pitch.
use Rattle.std.specs.Prelude.{ℕ, ◌%◌, ◌≤◌, ◌≡◌, List, true, ◌&&◌, length, get_or}
use Rattle.sheet.specs.Sheet.{sized, sliced, on_sheet, place}
use Rattle.sheet.specs.Reply.{Answer}
use Rattle.sheet.specs.Drawing.{Drawing, Draws}
use Rattle.sheet.specs.declared.Cell.{Cell}
use Rattle.sheet.specs.declared.Shape.{Shape}

-- a byte that is no cell's: it stands in its row where the width ends or after
abbrev pub Padding : Shape → ℕ → Type 0
Padding k n = k.width ≤ n % k.pitch

-- the shape with another pitch
abbrev pub with_pitch : Shape → ℕ → Shape
with_pitch k pitch = record { width = k.width; height = k.height; pitch = pitch }

-- two sheets of one width and height, whatever their pitches, that are alike cell for cell
pub record Alike (k : Shape) (pitch : ℕ) (s t : List ℕ) : Type 0 where
  pub one : (sized k && sliced k (length s)) ≡ true
  pub other : (sized (with_pitch k pitch) && sliced (with_pitch k pitch) (length t)) ≡ true
  pub cells : (c : Cell) → on_sheet k c ≡ true → get_or s (place k c) 0 ≡ get_or t (place (with_pitch k pitch) c) 0

-- The pitch does not matter to a drawing: on two such sheets it gives equal replies, and leaves them alike.
abbrev pub AnyPitch : (Shape → Drawing) → Type 0
AnyPitch draw = (k : Shape) (pitch : ℕ) (s t : List ℕ) (a b : Answer) (u v : List ℕ)
    → Alike k pitch s t → Draws (draw k) s a u → Draws (draw (with_pitch k pitch)) t b v → (a ≡ b) × Alike k pitch u v
