-- What is shown of pictures: that the header is the page's, and that they go there and back.
use Rattle.std.specs.Prelude.{ℕ, ◌+◌, ◌*◌, ◌-◌, ◌%◌, ◌^◌, ◌<◌, ◌≡◌, List, [], ◌++◌, true, cond, eqb, length, get_or}
use Rattle.laws.specs.Below.{each}
use Rattle.sheet.specs.Sheet.{place, cell_of}
use Rattle.sheet.specs.Reply.{Answer, done, is_done}
use Rattle.sheet.specs.Drawing.{if_sheet, Paints}
use Rattle.sheet.specs.declared.Shape.{Shape}
use Rattle.pbm.specs.Picture.{header_bytes, row_byte_count, raster_byte_count, bit_of, picture_of}
use Rattle.pbm.specs.Page.{Headed}
use Rattle.pbm.specs.Header.{names, rows_of}
use Rattle.pbm.specs.Reading.{read_drawing}

-- two shapes of one size; their pitches may differ
pub record SameSize (k j : Shape) : Type 0 where
  pub widths : j.width ≡ k.width
  pub heights : j.height ≡ k.height

-- byte n of the rows with its pad bits 0: those of a row's last byte that are beyond the width
unfoldable pub cleared : ℕ → ℕ → ℕ → ℕ
cleared width n byte = cond (eqb (n % row_byte_count width + 1) (row_byte_count width)) (byte - byte % 2 ^ (row_byte_count width * 8 - width)) byte

-- each cell is 1 where it was nonzero and 0 elsewhere
abbrev pub Flagged : Shape → List ℕ → Shape → List ℕ → Type 0
Flagged k s j bytes = (x y : ℕ) → x < k.width → y < k.height → get_or bytes (place j (cell_of x y)) 0 ≡ bit_of (get_or s (place k (cell_of x y)) 0)

pub record Shown : Type 0 where
  -- A file has a header that names a size exactly where the page's rules say so, and the rows are then the bytes after it.
  pub by_page : (file : List ℕ) (width height : ℕ) (rows : List ℕ) → Headed file width height rows
      → (names width height file ≡ true) × (rows_of file ≡ rows)
  pub to_page : (file : List ℕ) (width height : ℕ) → names width height file ≡ true → Headed file width height (rows_of file)
  -- Two headers that differ only in comments, blanks and leading zeros are read alike: as one drawing.
  pub alike : (k : Shape) (f g : List ℕ) (width height : ℕ) (rows : List ℕ)
      → Headed f width height rows → Headed g width height rows → read_drawing k f ≡ read_drawing k g
  -- Reading what was written, onto any sheet of that size, gives each cell 1 where it was nonzero and 0 elsewhere, whatever bytes follow.
  pub back : (k j : Shape) (s t more : List ℕ) (reply : Answer) (bytes : List ℕ)
      → is_done (if_sheet j (length t) (done [])) ≡ true → SameSize k j → Paints (read_drawing j (picture_of k s ++ more)) t reply bytes
      → (is_done reply ≡ true) × Flagged k s j bytes
  -- Writing what was read gives the picture's own rows back with the pad bits 0.
  pub again : (k : Shape) (file t : List ℕ) (reply : Answer) (bytes : List ℕ) → ((n : ℕ) → get_or file n 0 < 256)
      → Paints (read_drawing k file) t reply bytes → is_done reply ≡ true
      → picture_of k bytes
      ≡ header_bytes k.width k.height ++ each (raster_byte_count k) (λ (n : ℕ). cleared k.width n (get_or (rows_of file) n 0))
