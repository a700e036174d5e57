-- The table's row for each figure, and the one lemma about a row: what was written by it is read by it.
use Prim.Native.Nat.{ℕ, ◌+◌, ◌-◌, ◌<◌}
use mathlib.Core.Path.{◌≡◌, refl, sym, subst, ap, ◌∙◌}
use mathlib.Core.List.{List, ◌∷◌, ◌++◌}
use mathlib.Core.Bool.{true}
use native.Mathlib.Omega.{arith}
use borrow.Author.Tests.{leb-true}
use lib.IntN.{ℤ, pos}
use lib.ListN.{length, take, drop, length-append, length-take, length-drop}
use Rattle.laws.proofs.Tests.{halves}
use Rattle.sheet.specs.Sheet.{within_limits, semi_axis, split}
use Rattle.sheet.specs.Figure.{values_of, number_in}
use Rattle.sheet.specs.declared.Cell.{Cell}
use Rattle.sheet.specs.declared.Figure.{Figure}
use Rattle.sheet.specs.declared.Figure.TheVariants.{Line, Circle, Ellipse, Curve, Cubic}
use Rattle.sheet.proofs.Figures.{Sound}
use Rattle.sheet.proofs.Limits.{limits_x, limits_y}
use Rattle.record.specs.Layout.{Field, length_word, kind_word, byte, word, signed_word, Row, word_value_at, widths, line_row, circle_row, ellipse_row, curve_row, cubic_row, table}
use Rattle.record.specs.Reading.{found, values_from, row_found, kind_found, read_of, read_at}
use Rattle.record.specs.Writing.{fields_bytes, row_bytes, record_bytes, record_length, record_size}
use Rattle.record.specs.declared.types.Read.TheVariants as read
use Rattle.record.proofs.Found.{LimitedFrom, Counts, row_found_lem}
use Rattle.record.proofs.Fields.{Kept, AllKept, byte_kept, word_kept, signed_kept, fields_length, values_back, values_part}
use Rattle.record.proofs.Stands.{RowLimited, line_limited, circle_limited, ellipse_limited, curve_limited, cubic_limited}
use Rattle.record.proofs.Frames.{framed}

-- the payload's values of an ink and a figure
abbrev values : ℕ → Figure → List ℤ
values i f = pos i ∷ values_of f

-- the row by which an ink and a figure are written: its fields hold their values, and are within their limits where these are read
pub record Rowed (i : ℕ) (f : Figure) : Type 0 where
  pub row : Row
  pub bytes : record_bytes i f ≡ row_bytes row (values i f)
  pub size : record_length f ≡ row.length
  pub counts : Counts row
  pub finds : (p : List ℕ) (at next : ℕ) → kind_found row.kind p at next ≡ row_found row p at next
  pub makes : row.figure (values i f) ≡ f
  pub keeps : AllKept (length_word ∷ kind_word ∷ row.payload) (pos row.length ∷ pos row.kind ∷ values i f)
  pub limits : (p : List ℕ) → values_from row.payload p 0 ≡ values i f → LimitedFrom row.payload p 0

-- of a row whose equations hold by computing, whose fields hold the values, and have their limits from the figure's
by_row : (i : ℕ) (f : Figure) (row : Row) → record_bytes i f ≡ row_bytes row (values i f) → record_length f ≡ row.length → Counts row
    → ((p : List ℕ) (at next : ℕ) → kind_found row.kind p at next ≡ row_found row p at next) → row.figure (values i f) ≡ f
    → AllKept (length_word ∷ kind_word ∷ row.payload) (pos row.length ∷ pos row.kind ∷ values i f)
    → ((p : List ℕ) → RowLimited row p) → Sound f → Rowed i f
by_row i f row b s c d m k limited l =
    record {
      row = row;
      bytes = b;
      size = s;
      counts = c;
      finds = d;
      makes = m;
      keeps = k;
      limits = λ p e. limited p (subst (λ (v : List ℤ). Sound (row.figure v)) (sym e) (subst Sound (sym m) l));
    }

-- a record's length, kind and ink, and a cell, before what follows
head_kept : (n k i : ℕ) {R : Type 0} → n < 65536 → k < 65536 → i < 256 → R → Kept word (pos n) × (Kept word (pos k) × (Kept byte (pos i) × R))
head_kept n k i a b c r = (word_kept n a, (word_kept k b, (byte_kept i c, r)))

cell_kept : (c : Cell) {R : Type 0} → within_limits c ≡ true → R → Kept signed_word c.x × (Kept signed_word c.y × R)
cell_kept c l r = (signed_kept c.x (limits_x c l), (signed_kept c.y (limits_y c l), r))

axis_kept : (n m : ℕ) {R : Type 0} → semi_axis n m ≡ true → R → Kept word (pos n) × R
unfolding semi_axis
axis_kept n m e r = let h = leb-true n 16383 (halves _ _ e).0 in (word_kept n (omega arith), r)

split_kept : (s : ℕ) → split s ≡ true → Kept byte (pos s) × Unit {0}
split_kept s e = let h = leb-true s 6 e in (byte_kept s (omega arith), tt)

pub rowed : (i : ℕ) (f : Figure) → i < 256 → Sound f → Rowed i f
unfolding record_bytes record_length fields_bytes kind_found table line_row circle_row ellipse_row curve_row cubic_row
rowed i (Line a b) h l =
    by_row i (Line a b) line_row refl refl refl (λ p at next. refl) refl
    (head_kept 11 1 i (omega arith) (omega arith) h (cell_kept a l.0 (cell_kept b l.1 tt)))
    line_limited l
rowed i (Circle c r) h l =
    by_row i (Circle c r) circle_row refl refl refl (λ p at next. refl) refl
    (head_kept 9 2 i (omega arith) (omega arith) h (cell_kept c l.0 (axis_kept r r (halves _ _ l.1).0 tt)))
    circle_limited l
rowed i (Ellipse c a b) h l =
    let r = halves (semi_axis a b) (semi_axis b a) l.1 in
    by_row i (Ellipse c a b) ellipse_row refl refl refl (λ p at next. refl) refl
    (head_kept 11 3 i (omega arith) (omega arith) h (cell_kept c l.0 (axis_kept a b r.0 (axis_kept b a r.1 tt))))
    ellipse_limited l
rowed i (Curve p q r s) h l =
    by_row i (Curve p q r s) curve_row refl refl refl (λ p at next. refl) refl
    (head_kept 16 4 i (omega arith) (omega arith) h (cell_kept p l.0 (cell_kept q l.1 (cell_kept r l.2 (split_kept s l.3)))))
    curve_limited l
rowed i (Cubic p q r t s) h l =
    by_row i (Cubic p q r t s) cubic_row refl refl refl (λ p at next. refl) refl
    (head_kept 20 5 i (omega arith) (omega arith) h
    (cell_kept p l.0 (cell_kept q l.1 (cell_kept r l.2 (cell_kept t l.3 (split_kept s l.4))))))
    cubic_limited l

-- the record of an ink and a figure, in a file with other bytes before and after it
module _ (i : ℕ) (f : Figure) (R : Rowed i f) (q rest : List ℕ) where
  abbrev L : ℕ
  L = R.row.length

  abbrev fields : List Field
  fields = length_word ∷ kind_word ∷ R.row.payload

  abbrev file : List ℕ
  file = q ++ (row_bytes R.row (values i f) ++ rest)

  abbrev at : ℕ
  at = length q

  file_length : length file ≡ at + (2 + L) + length rest
  file_length =
      let n : length (row_bytes R.row (values i f)) ≡ widths fields = fields_length fields _ R.keeps in
      let c = R.counts in
      omega (arith, length-append q (row_bytes R.row (values i f) ++ rest), length-append (row_bytes R.row (values i f)) rest)

  all_values : values_from fields file at ≡ pos L ∷ pos R.row.kind ∷ values i f
  all_values = values_back fields _ R.keeps q rest

  -- its length, its kind and its payload as they are read
  length_read : L ≡ word_value_at file at
  unfolding values_from
  length_read = sym (ap (λ (v : List ℤ). number_in v 0) all_values)

  kind_read : R.row.kind ≡ word_value_at file (at + 2)
  unfolding values_from
  kind_read = sym (ap (λ (v : List ℤ). number_in v 1) all_values)

  payload_read : values_from R.row.payload file (at + 2 + 2) ≡ values i f
  unfolding values_from
  payload_read = ap (drop 2) all_values

  abbrev payload : List ℕ
  payload = take (at + 2 + L - (at + 4)) (drop (at + 4) file)

  payload_values : values_from R.row.payload payload 0 ≡ values i f
  payload_values =
      let c = R.counts in
      let e : at + 4 + 0 ≡ at + 2 + 2 = omega arith in
      values_part file (at + 4) (at + 2 + L - (at + 4)) R.row.payload 0 (omega arith) ∙ ap (values_from R.row.payload file) e ∙ payload_read

  payload_length : length payload ≡ widths R.row.payload
  payload_length = let c = R.counts in simp (length-take, length-drop) (omega (arith, file_length))

  row_read : read_at file at ≡ read.Record (record { offset = at; next = at + 2 + L; ink = i; figure = f })
  row_read =
      let c = R.counts in
      let l = R.limits payload payload_values in
      let made = R.finds payload at (at + 2 + L) ∙ row_found_lem R.row payload at (at + 2 + L) R.counts payload_length l in
      let told : read_of (found at (at + 2 + L) R.row (values i f)) ≡ read.Record (record { offset = at; next = at + 2 + L; ink = i; figure = f }) =
      ap (λ (g : Figure). read.Record (record { offset = at; next = at + 2 + L; ink = i; figure = g })) R.makes in
      sym
      (framed file at L length_read (omega (arith, file_length)) (omega (arith, file_length)) R.row.kind _ (omega (arith, file_length)) (omega arith) kind_read
      (sym (ap read_of (made ∙ ap (found at (at + 2 + L) R.row) payload_values) ∙ told)))

  pub record_read : read_at (q ++ (record_bytes i f ++ rest)) at ≡ read.Record (record { offset = at; next = at + record_size f; ink = i; figure = f })
  record_read =
      let e : at + 2 + L ≡ at + record_size f = omega (arith, R.size) in
      ap (λ (b : List ℕ). read_at (q ++ (b ++ rest)) at) R.bytes ∙ row_read
      ∙ ap (λ (n : ℕ). read.Record (record { offset = at; next = n; ink = i; figure = f })) e
