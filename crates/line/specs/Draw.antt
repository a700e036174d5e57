-- Drawing a line.
use Rattle.std.specs.Prelude.{ℕ, Bool, ◌&&◌, [], ◌∷◌, pos, nat_lt}
use Rattle.sheet.specs.Sheet.{sized, sliced, on_sheet, within_limits, cells_on}
use Rattle.sheet.specs.Reply.{Answer, done, unless}
use Rattle.sheet.specs.Drawing.{Drawing, only, if_sheet}
use Rattle.sheet.specs.declared.Cell.{Cell}
use Rattle.sheet.specs.declared.Shape.{Shape}
use Rattle.sheet.specs.declared.refusal.Refusal.TheVariants.{Coordinate}
use Rattle.line.specs.Rule.{long, on_line}

-- 1, 15, 2, else 0 with the number of the line's cells on the sheet, for a slice of n bytes
unfoldable pub line_answer : Shape → Cell → Cell → ℕ → Answer
line_answer k a b n =
    if_sheet k n
    (unless (within_limits a && within_limits b) Coordinate
    (done (pos (cells_on k (on_line a b)) ∷ [])))

abbrev pub line_drawing : Shape → ℕ → Cell → Cell → Drawing
line_drawing k ink a b = record { shape = k; answer = line_answer k a b; figures = only ink (on_line a b) }

-- whether a line has 2 to 128 cells, and both its ends on the sheet that a slice of n bytes is
unfoldable pub short_on : Shape → Cell → Cell → ℕ → Bool
short_on k a b n = (sized k && sliced k n) && (on_sheet k a && on_sheet k b) && (nat_lt 0 (long a b) && nat_lt (long a b) 128)
