-- What only the inner functions promise each other.
use Rattle.std.specs.Prelude.{ℕ, zero, suc, ◌+◌, ◌*◌, ◌/◌, ◌%◌, ◌^◌, ◌≤◌, ◌<◌, ◌≡◌, List, true, false, cond, ◌&&◌, leb, ltb, length, get_or, drop, Option, Some, None}
use Rattle.sheet.specs.Sheet.{by_place}
use Rattle.sheet.specs.declared.Shape.{Shape}
use Rattle.pbm.specs.Picture.{row_byte_count, packed, bit_of}
use Rattle.pbm.specs.Header.{Letter, letters, names, rows_of}
use Rattle.pbm.specs.Reading.{bit_at}

-- the letters from a place on, and a place that stands at the first of some letters, or at the file's end
abbrev pub letters_at : List ℕ → ℕ → List Letter
letters_at s at = letters false (drop at s)

pub record Stands (s : List ℕ) (ls : List Letter) (at : ℕ) : Type 0 where
  pub is : ls ≡ letters_at s at
  pub within : at ≤ length s
  pub outside : at < length s → get_or s at 0 ≡ 35 → ⊥

-- a number of a header, or 4,097 where it is larger than any side of a sheet
unfoldable pub capped : ℕ → ℕ
capped v = cond (leb v 4096) v 4097

-- where the rows of a picture of a size begin; none where the file names no such picture
abbrev pub Begins : List ℕ → Option ℕ → Type 0
Begins s (Some at) = (at ≤ length s) × (rows_of s ≡ drop at s)
Begins s None = ⊥

pub record Finds (s : List ℕ) (width height : ℕ) (at : Option ℕ) : Type 0 where
  pub found : names width height s ≡ true → Begins s at
  pub not_found : names width height s ≡ false → at ≡ None

-- the flag of a cell; flags are 0 and 1
unfoldable pub flag_at : List ℕ → ℕ → ℕ → ℕ
flag_at s from x = bit_of (get_or s (from + x) 0)

abbrev pub Flags : List ℕ → Type 0
Flags f = (i : ℕ) → get_or f i 0 ≤ 1

-- four of them in the bytes of a number, and eight in a byte
unfoldable pub four_of : List ℕ → ℕ → ℕ
four_of f at = get_or f at 0 + get_or f (at + 1) 0 * 256 + (get_or f (at + 2) 0 + get_or f (at + 3) 0 * 256) * 65536

unfoldable pub packed_at : List ℕ → ℕ → ℕ
packed_at f at = packed 8 (λ (i : ℕ). get_or f (at + i) 0)

-- the cells of a byte's bits in the bytes of a number, the highest bit in the lowest; a table of these; and byte i of a number
unfoldable pub spread : ℕ → ℕ → ℕ
spread zero byte = 0
spread (suc n) byte = spread n byte + bit_at byte n * 256 ^ n

pub record Table (t : List ℕ) : Type 0 where
  pub long : length t ≡ 256
  pub is : (byte : ℕ) → byte < 256 → get_or t byte 0 ≡ spread 8 byte

unfoldable pub byte_of : ℕ → ℕ → ℕ
byte_of n i = n / 256 ^ i % 256

-- bit x of the row that begins at a place of a picture
unfoldable pub row_bit : List ℕ → ℕ → ℕ → ℕ
row_bit p from x = bit_at (get_or p (from + x / 8) 0) (x % 8)

-- the bytes with the rows before y of a picture laid over their cells
unfoldable pub laid : Shape → List ℕ → ℕ → ℕ → List ℕ → List ℕ
laid k p from y s =
    by_place
    (λ (n v : ℕ).
    cond (ltb (n % k.pitch) k.width && ltb (n / k.pitch) y) (row_bit p (from + n / k.pitch * row_byte_count k.width) (n % k.pitch)) v)
    s
