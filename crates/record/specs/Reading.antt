-- Document 01, "Record file", with K6 of document 02: what stands at an offset of a file.
use Rattle.std.specs.Prelude.{ℕ, ◌+◌, ◌-◌, List, [], ◌∷◌, Bool, cond, leb, eqb, ℤ, pos, length, get_or, take, drop}
use Rattle.sheet.specs.Sheet as sheet
use Rattle.sheet.specs.Reply.{Answer, done, refuse_at}
use Rattle.sheet.specs.Figure.{kind_of, values_of, number_in}
use Rattle.sheet.specs.declared.refusal.Refusal.{Refusal}
use Rattle.sheet.specs.declared.refusal.Refusal.TheVariants.{Coordinate, Radius, Pieces, Short, Kind, Length, Kindless}
use Rattle.record.specs.Layout.{Field, length_word, kind_word, ink, coordinate, radius, axis_a, axis_b, pieces, Row, word_value_at, width, value_at, kind_place, payload_place, table, for_kind}
use Rattle.record.specs.declared.types.Read.{Read}
use Rattle.record.specs.declared.types.Read.TheVariants.{Record, End, Refused}

-- A record with its offset, the offset after it, its row and its payload's values; the end; or a refusal with the offset of the
-- offending field's first byte.
pub data Found : Type 0 where
  found : ℕ → ℕ → Row → List ℤ → Found
  end : Found
  refused : Refusal → ℕ → Found

-- the refusal with its offset unless the test holds, and then what follows
abbrev pub unless_at : Bool → Refusal → ℕ → Found → Found
unless_at test r at rest = cond test rest (refused r at)

-- the values of fields that follow each other from k on
unfoldable pub values_from : List Field → List ℕ → ℕ → List ℤ
values_from [] p k = []
values_from (f ∷ fs) p k = value_at f p k ∷ values_from fs p (k + width f)

-- the semi-axis at k beside the other, at l
abbrev pub axis_at : List ℕ → ℕ → ℕ → Bool
axis_at p k l = sheet.semi_axis (word_value_at p k) (word_value_at p l)

-- the field at k within its limits: a radius is both semi-axes, a has b after it, and b has a before it; else 2 for a coordinate, 3 for
-- a radius or semi-axis, 4 for s
abbrev pub limited : Field → List ℕ → ℕ → ℕ → Found → Found
limited length_word p k at rest = rest
limited kind_word p k at rest = rest
limited ink p k at rest = rest
limited coordinate p k at rest = unless_at (sheet.coordinate (value_at coordinate p k)) Coordinate at rest
limited radius p k at rest = unless_at (axis_at p k k) Radius at rest
limited axis_a p k at rest = unless_at (axis_at p k (k + width axis_a)) Radius at rest
limited axis_b p k at rest = unless_at (axis_at p k (k - width axis_a)) Radius at rest
limited pieces p k at rest = unless_at (sheet.split (get_or p k 0)) Pieces at rest

-- each field from k on in turn, of a payload that starts at an offset: the first that is not within its limits is named
unfoldable pub limited_from : List Field → List ℕ → ℕ → ℕ → Found → Found
limited_from [] p k start rest = rest
limited_from (f ∷ fs) p k start rest = limited f p k (start + k) (limited_from fs p (k + width f) start rest)

-- a payload of a row's kind: 10 unless the length, which counts the kind and the payload, is the row's; then its fields
unfoldable pub row_found : Row → List ℕ → ℕ → ℕ → Found
row_found row p at next =
    unless_at (eqb (width kind_word + length p) row.length) Length at
    (limited_from row.payload p 0 (payload_place at) (found at next row (values_from row.payload p 0)))

-- a payload of a kind: 9 unless a row of the table has it
unfoldable pub kind_found : ℕ → List ℕ → ℕ → ℕ → Found
kind_found kind p at next = for_kind table kind (λ row. row_found row p at next) (refused Kind (kind_place at))

-- the payload, which starts after the kind and runs to the record's end
abbrev pub payload_at : List ℕ → ℕ → List ℕ
payload_at s at = take (word_value_at s at - width kind_word) (drop (payload_place at) s)

-- At an offset not below the file's length the end; 8 with no whole length left, or with fewer bytes after it than it counts; 16
-- with a length that holds no kind: all of these name the length.
unfoldable pub found_at : List ℕ → ℕ → Found
found_at s at =
    cond (leb (length s) at) end
    (unless_at (leb (width length_word) (length s - at)) Short at
    (unless_at (leb (word_value_at s at) (length s - at - width length_word)) Short at
    (unless_at (leb (width kind_word) (word_value_at s at)) Kindless at
    (kind_found (word_value_at s (kind_place at)) (payload_at s at) at (kind_place at + word_value_at s at)))))

-- the paper's answer: 0 with a record's offset, the offset after it, its kind and its payload's values; 0 alone at the end
abbrev pub answer_of : Found → Answer
answer_of (found at next row v) = done (pos at ∷ pos next ∷ pos row.kind ∷ v)
answer_of end = done []
answer_of (refused r at) = refuse_at r at

unfoldable pub read_answer : List ℕ → ℕ → Answer
read_answer s at = answer_of (found_at s at)

-- the code's answer: the same, its values made into a figure
abbrev pub read_of : Found → Read
read_of (found at next row v) = Record (record { offset = at; next = next; ink = number_in v 0; figure = row.figure v })
read_of end = End
read_of (refused r at) = Refused r at

unfoldable pub read_at : List ℕ → ℕ → Read
read_at s at = read_of (found_at s at)

-- the code's answer in the paper's words
abbrev pub told_read : Read → Answer
told_read (Record r) = done (pos r.offset ∷ pos r.next ∷ pos (kind_of r.figure) ∷ pos r.ink ∷ values_of r.figure)
told_read End = done []
told_read (Refused r at) = refuse_at r at
