-- Document 02, K2: reading a raw PBM picture onto a sheet of the same size.
use Rattle.std.specs.Prelude.{ℕ, ◌+◌, ◌*◌, ◌-◌, ◌/◌, ◌%◌, ◌^◌, List, [], ◌∷◌, Bool, true, leb, eqb, nat_abs, length, get_or}
use Rattle.sheet.specs.Reply.{Answer, done, unless}
use Rattle.sheet.specs.Drawing.{Drawing, if_sheet}
use Rattle.sheet.specs.declared.Cell.{Cell}
use Rattle.sheet.specs.declared.Shape.{Shape}
use Rattle.sheet.specs.declared.refusal.Refusal.TheVariants.{Header, Pixels}
use Rattle.pbm.specs.Picture.{row_byte_count, raster_byte_count}
use Rattle.pbm.specs.Header.{names, rows_of}

-- bit i of a byte, the highest first
abbrev pub bit_at : ℕ → ℕ → ℕ
bit_at byte i = byte / 2 ^ (7 - i) % 2

-- the bit of pixel (x, y) in rows of a width
unfoldable pub pixel : ℕ → List ℕ → ℕ → ℕ → ℕ
pixel width rows x y = bit_at (get_or rows (y * row_byte_count width + x / 8) 0) (x % 8)

-- 1, 15, then 13 when the header breaks the page's rules or names another size, then 14 when pixel bytes are missing, else 0
unfoldable pub read_answer : Shape → List ℕ → ℕ → Answer
read_answer k file n =
    if_sheet k n (unless (names k.width k.height file) Header (unless (leb (raster_byte_count k) (length (rows_of file))) Pixels (done [])))

-- all cells, and those of a picture's pixels that are 1
abbrev pub everywhere : Cell → Bool
everywhere c = true

unfoldable pub black : ℕ → List ℕ → Cell → Bool
black width rows c = eqb (pixel width rows (nat_abs c.x) (nat_abs c.y)) 1

-- Reading is a drawing: all cells in ink 0, and then the picture's pixels that are 1 in ink 1. It tells no rectangle.
abbrev pub read_drawing : Shape → List ℕ → Drawing
read_drawing k file =
    record {
      shape = k;
      answer = read_answer k file;
      figures = record { ink = 0; figure = everywhere } ∷ record { ink = 1; figure = black k.width (rows_of file) } ∷ [];
    }
