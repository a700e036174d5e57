-- The header that a file has: the page's rules, as one reading of the file's bytes.
use Rattle.std.specs.Prelude.{ℕ, List, [], ◌∷◌, Bool, true, false, cond, not, ◌&&◌, eqb}
use Rattle.pbm.specs.Page.{blank, digit, ending, value_after}

-- a byte outside comments, and the file's bytes after it
pub record Letter : Type 0 where
  pub byte : ℕ
  pub after : List ℕ

-- The bytes outside comments, of a file that begins within a comment or outside.
unfoldable pub letters : Bool → List ℕ → List Letter
letters within [] = []
letters true (c ∷ s) = letters (not (ending c)) s
letters false (c ∷ s) = cond (eqb c 35) (letters true s) (record { byte = c; after = s } ∷ letters false s)

-- whether the first passes a test; all but the first; the bytes after the first
abbrev pub first : (ℕ → Bool) → List Letter → Bool
first test [] = false
first test (l ∷ ls) = test l.byte

abbrev pub next : List Letter → List Letter
next [] = []
next (l ∷ ls) = ls

abbrev pub after_first : List Letter → List ℕ
after_first [] = []
after_first (l ∷ ls) = l.after

-- as long as they pass a test, the bytes; and the letters from there on
unfoldable pub run : (ℕ → Bool) → List Letter → List ℕ
run test [] = []
run test (l ∷ ls) = cond (test l.byte) (l.byte ∷ run test ls) []

unfoldable pub past : (ℕ → Bool) → List Letter → List Letter
past test [] = []
past test (l ∷ ls) = cond (test l.byte) (past test ls) (l ∷ ls)

-- of a file's letters: those from the blanks after the magic number on, from the width, the blanks after it, the height, the last blank
abbrev pub from_gap : List Letter → List Letter
from_gap ls = next (next ls)

abbrev pub from_width : List Letter → List Letter
from_width ls = past blank (from_gap ls)

abbrev pub from_space : List Letter → List Letter
from_space ls = past digit (from_width ls)

abbrev pub from_height : List Letter → List Letter
from_height ls = past blank (from_space ls)

abbrev pub from_last : List Letter → List Letter
from_last ls = past digit (from_height ls)

-- whether all parts are there
abbrev pub is_header : List Letter → Bool
is_header ls =
    first (eqb 80) ls && first (eqb 52) (next ls) && first blank (from_gap ls) && first digit (from_width ls) && first blank (from_space ls)
    && first digit (from_height ls) && first blank (from_last ls)

-- whether a file has a header that names this size; and the bytes after its last blank
unfoldable pub names : ℕ → ℕ → List ℕ → Bool
names width height file =
    is_header (letters false file)
    && eqb (value_after 0 (run digit (from_width (letters false file)))) width
    && eqb (value_after 0 (run digit (from_height (letters false file)))) height

unfoldable pub rows_of : List ℕ → List ℕ
rows_of file = after_first (from_last (letters false file))
