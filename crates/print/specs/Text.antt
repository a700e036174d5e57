-- Document 01, last part of "Record file": the text that the printing program prints for the bytes of its input.
use Rattle.std.specs.Prelude.{ℕ, zero, suc, List, [], ◌∷◌, ◌++◌, Bool, cond, leb, eqb, length, get_or, replicate}
use Rattle.laws.specs.Text.{decimal}
use Rattle.sheet.specs.Sheet.{bytes, place, cell_of}
use Rattle.sheet.specs.Reply.{Answer, value_of, settled}
use Rattle.sheet.specs.Drawing.{paint_all}
use Rattle.sheet.specs.declared.Shape.{Shape}
use Rattle.drawing.specs.File.{figures_in, draw_file_answer}

-- Every line ends with a newline.
abbrev pub newline : List ℕ
newline = 10 ∷ []

-- n texts, one after the other
unfoldable pub in_turn : ℕ → (ℕ → List ℕ) → List ℕ
in_turn zero part = []
in_turn (suc n) part = in_turn n part ++ part n

-- a 16 by 8 sheet ..
abbrev pub sheet : Shape
sheet = record { width = 16; height = 8; pitch = 16 }

-- .. of zeros
abbrev pub zeros : List ℕ
zeros = replicate (bytes sheet) 0

-- `.` for byte 0 and `#` otherwise
abbrev pub character : ℕ → ℕ
character byte = cond (eqb byte 0) 46 35

-- the character of cell (x, y) on a sheet of bytes s
unfoldable pub character_at : List ℕ → ℕ → ℕ → List ℕ
character_at s y x = character (get_or s (place sheet (cell_of x y)) 0) ∷ []

-- a line of 16 characters, x = 0 leftmost
unfoldable pub line : List ℕ → ℕ → List ℕ
line s y = in_turn 16 (character_at s y) ++ newline

-- 8 lines, y = 0 first
unfoldable pub picture : List ℕ → List ℕ
picture s = in_turn 8 (line s)

-- `refused`, a blank, the number, ` at `, the offset
unfoldable pub refusal : ℕ → ℕ → List ℕ
refusal number offset =
    (114 ∷ 101 ∷ 102 ∷ 117 ∷ 115 ∷ 101 ∷ 100 ∷ 32 ∷ []) ++ decimal number ++ (32 ∷ 97 ∷ 116 ∷ 32 ∷ []) ++ decimal offset ++ newline

-- `input ` and `input too long`
abbrev pub input : List ℕ
input = 105 ∷ 110 ∷ 112 ∷ 117 ∷ 116 ∷ 32 ∷ []

abbrev pub too_long : List ℕ
too_long = input ++ (116 ∷ 111 ∷ 111 ∷ 32 ∷ 108 ∷ 111 ∷ 110 ∷ 103 ∷ []) ++ newline

-- the picture of what was drawn, or the line of the refusal with its offset
abbrev pub printed : Answer → List ℕ → List ℕ
printed a drawn = settled a (picture drawn) (refusal a.number (value_of a))

-- A file of at most 4,096 bytes is drawn on the sheet of zeros; a longer one is too long.
unfoldable pub text_of : List ℕ → List ℕ
text_of file =
    cond (leb (length file) 4096)
    (printed (draw_file_answer sheet file (bytes sheet)) (paint_all sheet (figures_in file) zeros))
    too_long

-- `input cannot be read`, of which document 01 does not speak
abbrev pub unreadable : List ℕ
unreadable = input ++ (99 ∷ 97 ∷ 110 ∷ 110 ∷ 111 ∷ 116 ∷ 32 ∷ 98 ∷ 101 ∷ 32 ∷ 114 ∷ 101 ∷ 97 ∷ 100 ∷ []) ++ newline

-- Of an input that cannot be read to its end nothing is drawn.
unfoldable pub reply_of : Bool → List ℕ → List ℕ
reply_of whole file = cond whole (text_of file) unreadable
