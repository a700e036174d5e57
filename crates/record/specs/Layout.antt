-- Document 01, "Record file", with K13 of document 02: the table of kinds, and how the fields of a payload are held.
use Rattle.std.specs.Prelude.{ℕ, zero, suc, ◌+◌, ◌*◌, ◌-◌, ◌/◌, ◌%◌, List, [], ◌∷◌, cond, ltb, eqb, ℤ, pos, negsuc, ◌-ℤ◌, get_or}
use Rattle.sheet.specs.Figure.{cell_in, number_in}
use Rattle.sheet.specs.declared.Figure.{Figure}
use Rattle.sheet.specs.declared.Figure.TheVariants.{Line, Circle, Ellipse, Curve, Cubic}

-- 2 bytes, little-endian
abbrev pub word_value_at : List ℕ → ℕ → ℕ
word_value_at s k = get_or s k 0 + 256 * get_or s (k + 1) 0

-- signed 16-bit: from 32,768 on a word stands for 65,536 less
unfoldable pub signed : ℕ → ℤ
signed n = cond (ltb n 32768) (pos n) (pos n -ℤ pos 65536)

-- and back: negsuc n, which is −(n + 1), is held as the word 65,536 greater
abbrev pub unsigned : ℤ → ℕ
unsigned (pos n) = n
unsigned (negsuc n) = 65536 - suc n

-- the lowest bytes of a number, little-endian, as many as a field has
abbrev pub bytes_of : ℕ → ℕ → List ℕ
bytes_of zero n = []
bytes_of (suc w) n = n % 256 ∷ bytes_of w (n / 256)

-- The fields of a record: its length and its kind are 2 bytes each; of its payload, coordinates are signed 16-bit, radii and axes
-- unsigned 16-bit, the ink and s are 1 byte.
pub data Field : Type 0 where
  length_word : Field
  kind_word : Field
  ink : Field
  coordinate : Field
  radius : Field
  axis_a : Field
  axis_b : Field
  pieces : Field

-- how each is held
pub data Form : Type 0 where
  byte : Form
  word : Form
  signed_word : Form

abbrev pub form : Field → Form
form length_word = word
form kind_word = word
form ink = byte
form coordinate = signed_word
form radius = word
form axis_a = word
form axis_b = word
form pieces = byte

abbrev pub form_width : Form → ℕ
form_width byte = 1
form_width word = 2
form_width signed_word = 2

abbrev pub form_value : Form → List ℕ → ℕ → ℤ
form_value byte s k = pos (get_or s k 0)
form_value word s k = pos (word_value_at s k)
form_value signed_word s k = signed (word_value_at s k)

-- a field's width, and its value at a place
abbrev pub width : Field → ℕ
width f = form_width (form f)

abbrev pub value_at : Field → List ℕ → ℕ → ℤ
value_at f = form_value (form f)

abbrev pub widths : List Field → ℕ
widths [] = 0
widths (f ∷ fs) = width f + widths fs

-- Each record is its length, its kind and its payload, and a field's place is the sum of the widths before it: where the kind and the
-- payload start, in a record at an offset.
abbrev pub kind_place : ℕ → ℕ
kind_place at = at + widths (length_word ∷ [])

abbrev pub payload_place : ℕ → ℕ
payload_place at = at + widths (length_word ∷ kind_word ∷ [])

-- A row of the table: kind, length, payload, and the figure that the payload's values make.
pub record Row : Type 0 where
  pub kind : ℕ
  pub length : ℕ
  pub payload : List Field
  pub figure : List ℤ → Figure

abbrev row_of : ℕ → ℕ → List Field → (List ℤ → Figure) → Row
row_of kind length payload figure = record { kind = kind; length = length; payload = payload; figure = figure }

unfoldable pub line_row : Row
line_row = row_of 1 11 (ink ∷ coordinate ∷ coordinate ∷ coordinate ∷ coordinate ∷ []) (λ v. Line (cell_in v 1) (cell_in v 3))

unfoldable pub circle_row : Row
circle_row = row_of 2 9 (ink ∷ coordinate ∷ coordinate ∷ radius ∷ []) (λ v. Circle (cell_in v 1) (number_in v 3))

unfoldable pub ellipse_row : Row
ellipse_row = row_of 3 11 (ink ∷ coordinate ∷ coordinate ∷ axis_a ∷ axis_b ∷ []) (λ v. Ellipse (cell_in v 1) (number_in v 3) (number_in v 4))

unfoldable pub curve_row : Row
curve_row =
    row_of 4 16 (ink ∷ coordinate ∷ coordinate ∷ coordinate ∷ coordinate ∷ coordinate ∷ coordinate ∷ pieces ∷ [])
    (λ v. Curve (cell_in v 1) (cell_in v 3) (cell_in v 5) (number_in v 7))

unfoldable pub cubic_row : Row
cubic_row =
    row_of 5 20 (ink ∷ coordinate ∷ coordinate ∷ coordinate ∷ coordinate ∷ coordinate ∷ coordinate ∷ coordinate ∷ coordinate ∷ pieces ∷ [])
    (λ v. Cubic (cell_in v 1) (cell_in v 3) (cell_in v 5) (cell_in v 7) (number_in v 9))

-- the table
unfoldable pub table : List Row
table = line_row ∷ circle_row ∷ ellipse_row ∷ curve_row ∷ cubic_row ∷ []

-- what is made of the table's row for a kind, or else of none
abbrev pub for_kind {ℓ} : {A : Type ℓ} → List Row → ℕ → (Row → A) → A → A
for_kind [] kind some none = none
for_kind (row ∷ rows) kind some none = cond (eqb kind row.kind) (some row) (for_kind rows kind some none)
