-- Document 02, K1: writing a record, by the table that the reading goes by.
use Rattle.std.specs.Prelude.{ℕ, ◌+◌, ◌-◌, ◌≡◌, List, [], ◌∷◌, ◌++◌, leb, ℤ, pos, length, take, drop}
use Rattle.sheet.specs.Reply.{Answer, done, unless, settled}
use Rattle.sheet.specs.Figure.{kind_of, values_of, if_figure}
use Rattle.sheet.specs.declared.Figure.{Figure}
use Rattle.sheet.specs.declared.refusal.Refusal.TheVariants.{Full}
use Rattle.record.specs.Layout.{Field, length_word, kind_word, Row, width, unsigned, bytes_of, table, for_kind}

-- the bytes of a field with a value, and of fields that follow each other with theirs
abbrev pub field_bytes : Field → ℤ → List ℕ
field_bytes f z = bytes_of (width f) (unsigned z)

unfoldable pub fields_bytes : List Field → List ℤ → List ℕ
fields_bytes [] v = []
fields_bytes (f ∷ fs) [] = []
fields_bytes (f ∷ fs) (z ∷ v) = field_bytes f z ++ fields_bytes fs v

-- A record of a row with its payload's values: its length, its kind and its payload.
abbrev pub row_bytes : Row → List ℤ → List ℕ
row_bytes row v = fields_bytes (length_word ∷ kind_word ∷ row.payload) (pos row.length ∷ pos row.kind ∷ v)

-- the record of an ink and a figure, by the row of the figure's kind; and that record's length
unfoldable pub record_bytes : ℕ → Figure → List ℕ
record_bytes ink f = for_kind table (kind_of f) (λ row. row_bytes row (pos ink ∷ values_of f)) []

unfoldable pub record_length : Figure → ℕ
record_length f = for_kind table (kind_of f) (λ row. row.length) 0

-- how many bytes the record takes: the length counts those after its own 2
abbrev pub record_size : Figure → ℕ
record_size f = width length_word + record_length f

-- Of a buffer of n bytes with a filled count: 2, 3, 4 as for drawing, then 11 where the free bytes are fewer than the record takes (a
-- count above the buffer's length leaves none), else 0 with the new count.
unfoldable pub write_answer : ℕ → Figure → ℕ → Answer
write_answer filled f n = if_figure f (unless (leb (record_size f) (n - filled)) Full (done (pos (filled + record_size f) ∷ [])))

-- bytes put into a list at a place; those before it, and those after them, stay
abbrev pub put_at : ℕ → List ℕ → List ℕ → List ℕ
put_at at bytes s = take at s ++ bytes ++ drop (at + length bytes) s

-- Writing on lent bytes: the reply is the answer, and the record stands at the filled count, or nothing is touched by a refusal.
pub record Writes (filled ink : ℕ) (f : Figure) (lent : List ℕ) (reply : Answer) (bytes : List ℕ) : Type 0 where
  pub tells : reply ≡ write_answer filled f (length lent)
  pub leaves : bytes ≡ settled (write_answer filled f (length lent)) (put_at filled (record_bytes ink f) lent) lent
