-- The header of a raw PBM picture, by the rules of the Netpbm page (`man 5 pbm`).
use Rattle.std.specs.Prelude.{ℕ, ◌+◌, ◌*◌, ◌-◌, ◌≡◌, List, [], ◌∷◌, ◌++◌, Bool, true, false, ◌&&◌, ◌||◌, leb, eqb}

-- white space: blank, TAB, LF, VT, FF, CR; a decimal digit; and what ends a comment: a carriage return or a newline
abbrev pub blank : ℕ → Bool
blank c = eqb c 32 || (leb 9 c && leb c 13)

abbrev pub digit : ℕ → Bool
digit c = leb 48 c && leb c 57

abbrev pub ending : ℕ → Bool
ending c = eqb c 10 || eqb c 13

-- one byte that passes a test, or more
pub data Some (test : ℕ → Bool) : (s : List ℕ) → Type 0 where
  one : (c : ℕ) → test c ≡ true → Some test (c ∷ [])
  more : (c : ℕ) (s : List ℕ) → test c ≡ true → Some test s → Some test (c ∷ s)

-- a comment, after its #: through the next carriage return or newline
pub data Comment : (s : List ℕ) → Type 0 where
  ends : (c : ℕ) → ending c ≡ true → Comment (c ∷ [])
  goes : (c : ℕ) (s : List ℕ) → ending c ≡ false → Comment s → Comment (c ∷ s)

-- A file that begins with a text, comments skipped anywhere before the text's last byte; and the bytes after that byte.
pub data Begins : (text file after : List ℕ) → Type 0 where
  here : (after : List ℕ) → Begins [] after after
  byte : (c : ℕ) (text file after : List ℕ) → eqb c 35 ≡ false → Begins text file after → Begins (c ∷ text) (c ∷ file) after
  skip : (comment : List ℕ) (c : ℕ) (text file after : List ℕ) → Comment comment → Begins (c ∷ text) file after
      → Begins (c ∷ text) (35 ∷ comment ++ file) after

-- the value of decimal digits, after a number that others before them have
unfoldable pub value_after : ℕ → List ℕ → ℕ
value_after v [] = v
value_after v (c ∷ s) = value_after (10 * v + (c - 48)) s

-- The page: the magic number, blanks, the width, blanks, the height, and a single blank, after which the rows begin.
pub record Headed (file : List ℕ) (width height : ℕ) (rows : List ℕ) : Type 0 where
  -- the parts after P4, and what each is
  pub gap : List ℕ
  pub across : List ℕ
  pub space : List ℕ
  pub down : List ℕ
  pub last : ℕ
  pub gaps : Some blank gap
  pub acrosses : Some digit across
  pub spaces : Some blank space
  pub downs : Some digit down
  pub lasts : blank last ≡ true
  -- the sizes, in decimal
  pub wide : value_after 0 across ≡ width
  pub high : value_after 0 down ≡ height
  -- and the file begins with all of it, comments skipped
  pub begins : Begins (80 ∷ 52 ∷ (gap ++ (across ++ (space ++ (down ++ (last ∷ [])))))) file rows
