-- Document 02, K2: a sheet as a raw PBM picture, and writing one.
use Rattle.std.specs.Prelude.{ℕ, zero, suc, ◌+◌, ◌*◌, ◌/◌, ◌%◌, ◌≡◌, List, [], ◌∷◌, ◌++◌, cond, leb, ltb, eqb, pos, length, get_or}
use Rattle.laws.specs.Below.{each}
use Rattle.laws.specs.Text.{decimal, written_over}
use Rattle.sheet.specs.Sheet.{place, cell_of}
use Rattle.sheet.specs.Reply.{Answer, done, unless, settled}
use Rattle.sheet.specs.Drawing.{if_sheet}
use Rattle.sheet.specs.declared.Shape.{Shape}
use Rattle.sheet.specs.declared.refusal.Refusal.TheVariants.{Buffer}

-- P4, newline, width, blank, height, newline
unfoldable pub header_bytes : ℕ → ℕ → List ℕ
header_bytes width height = (80 ∷ 52 ∷ 10 ∷ []) ++ decimal width ++ (32 ∷ []) ++ decimal height ++ (10 ∷ [])

-- how many bytes a row takes: its bits are padded to a byte; and all rows
abbrev pub row_byte_count : ℕ → ℕ
row_byte_count width = (width + 7) / 8

abbrev pub raster_byte_count : Shape → ℕ
raster_byte_count k = k.height * row_byte_count k.width

-- n bits as a number, the first the highest
unfoldable pub packed : ℕ → (ℕ → ℕ) → ℕ
packed zero bit = 0
packed (suc n) bit = 2 * packed n bit + bit n

-- nonzero ink is 1
abbrev pub bit_of : ℕ → ℕ
bit_of ink = cond (eqb ink 0) 0 1

-- the bit of pixel (x, y): its cell's, and zero in the padding of a row
unfoldable pub sheet_bit : Shape → List ℕ → ℕ → ℕ → ℕ
sheet_bit k s y x = cond (ltb x k.width) (bit_of (get_or s (place k (cell_of x y)) 0)) 0

-- byte n of the rows, which follow each other: eight bits, the highest leftmost
unfoldable pub raster_byte : Shape → List ℕ → ℕ → ℕ
raster_byte k s n = packed 8 (λ (i : ℕ). sheet_bit k s (n / row_byte_count k.width) (n % row_byte_count k.width * 8 + i))

-- the picture: its header, and then the rows
unfoldable pub picture_of : Shape → List ℕ → List ℕ
picture_of k s = header_bytes k.width k.height ++ each (raster_byte_count k) (raster_byte k s)

-- 1, 15, then 12 when the buffer is too short, else 0 with the picture's byte count
unfoldable pub write_answer : Shape → List ℕ → ℕ → Answer
write_answer k s room =
    if_sheet k (length s) (unless (leb (length (picture_of k s)) room) Buffer (done (pos (length (picture_of k s)) ∷ [])))

-- Writing a sheet to a lent buffer: the picture from its beginning on, bytes beyond it stay; or untouched by a refusal.
pub record Writes (k : Shape) (s lent : List ℕ) (reply : Answer) (bytes : List ℕ) : Type 0 where
  pub tells : reply ≡ write_answer k s (length lent)
  pub leaves : bytes ≡ settled (write_answer k s (length lent)) (written_over (picture_of k s) lent) lent
