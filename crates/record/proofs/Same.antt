-- A record that was read, written again, is the bytes that stand there; and so is an accepted file.
use Prim.Native.Nat.{ℕ, zero, suc, ◌+◌, ◌-◌, ◌≤◌, ◌<◌}
use mathlib.Core.Path.{◌≡◌, refl, sym, subst, ap, ap₂, ◌∙◌}
use mathlib.Core.List.{List, [], ◌∷◌, ◌++◌, map}
use native.Mathlib.Omega.{arith}
use lib.IntN.{ℤ, pos}
use lib.ListN.{length, get_or, take, drop, take-append-drop, drop_of_length-le}
use lib.Seq.{drop-drop, get_or-take, get_or-drop}
use Rattle.sheet.specs.Figure.{number_in}
use Rattle.sheet.specs.declared.Figure.{Figure}
use Rattle.sheet.specs.declared.refusal.Refusal.{Refusal}
use Rattle.sheet.proofs.Figures.{Sound}
use Rattle.record.specs.Layout.{Field, length_word, kind_word, Row, word_value_at, widths, line_row, circle_row, ellipse_row, curve_row, cubic_row, table}
use Rattle.record.specs.Reading.{Found, refused, values_from, payload_at, read_of, read_at}
use Rattle.record.specs.File.{Contents, holds, refuses, also, read_from, read_all}
use Rattle.record.specs.Writing.{fields_bytes, row_bytes, record_bytes}
use Rattle.record.specs.Again.{Bytes, Item, item_of}
use Rattle.record.specs.declared.types.Record.{Record}
use Rattle.record.specs.declared.types.Read.{Read}
use Rattle.record.specs.declared.types.Read.TheVariants as read
use Rattle.record.proofs.Ended.{at_file_end}
use Rattle.record.proofs.Found.{Each, each_as, Counts, length_holds, kind_has, found_has}
use Rattle.record.proofs.Fields.{fields_again, values_part}
use Rattle.record.proofs.Stands.{stands}
use Rattle.record.proofs.Onward.{from_record, from_end, from_refusal}

-- the bytes of items that follow each other; items that no writing refuses for their fields
abbrev pub all_bytes : List Item → List ℕ
all_bytes [] = []
all_bytes (w ∷ ws) = record_bytes w.ink w.figure ++ all_bytes ws

abbrev pub AllSound : List Item → Type 0
AllSound [] = Unit {0}
AllSound (w ∷ ws) = (w.ink < 256) × (Sound w.figure × AllSound ws)

-- contents that hold records
abbrev records_of : Contents → List Record
records_of (holds rs) = rs
records_of (refuses q at) = []

pub never_holds : (q : Refusal) (at : ℕ) (rs : List Record) → refuses q at ≡ holds rs → ⊥
never_holds q at rs e = let z : ◌≡◌ {A = ℕ} 0 1 = cc in omega arith

pub record Holds (r : Record) (k : Contents) (rs : List Record) : Type 0 where
  pub rest : List Record
  pub after : k ≡ holds rest
  pub is : rs ≡ r ∷ rest

pub from_holds : (r : Record) (k : Contents) (rs : List Record) → also r k ≡ holds rs → Holds r k rs
from_holds r (holds rest) rs e = record { rest = rest; after = refl; is = sym (ap records_of e) }
from_holds r (refuses q at) rs e = absurd (never_holds q at rs e)

module _ (s : List ℕ) (bytes : Bytes s) where
  -- the one lemma about a row: a payload of its bytes, with the row's length and kind before it, is what the row writes
  module _ (at : ℕ) (row : Row) (c : Counts row) (e : word_value_at s (at + 2) ≡ row.kind) (w : word_value_at s at ≡ row.length) (b : at + 2 + word_value_at s at ≤ length s) where
    abbrev fields : List Field
    fields = length_word ∷ kind_word ∷ row.payload

    pub row_again : row_bytes row (values_from row.payload (payload_at s at) 0) ++ drop (at + 2 + word_value_at s at) s ≡ drop at s
    unfolding values_from
    row_again =
        let k : at + 4 + 0 ≡ at + 2 + 2 = omega arith in
        let v = values_part s (at + 4) (word_value_at s at - 2) row.payload 0 (omega arith) ∙ ap (values_from row.payload s) k in
        let all : pos row.length ∷ pos row.kind ∷ values_from row.payload (payload_at s at) 0 ≡ values_from fields s at =
        let counted = sym w in
        let kind = sym e in
        λ i. pos (counted i) ∷ pos (kind i) ∷ v i in
        let n : at + widths fields ≡ at + 2 + word_value_at s at = omega arith in
        let rest = drop-drop (widths fields) at s ∙ ap (λ (o : ℕ). drop o s) n in
        ap₂ (λ (x y : List ℕ). x ++ y) (ap (fields_bytes fields) all ∙ fields_again s bytes fields at (omega arith)) (sym rest)
        ∙ take-append-drop (widths fields) (drop at s)

  ink_byte : (o n : ℕ) → get_or (take n (drop o s)) 0 0 < 256
  ink_byte o zero = omega arith
  ink_byte o (suc n) = subst (λ (b : ℕ). b < 256) (sym (get_or-take (suc n) (drop o s) 0 0 (omega arith) ∙ get_or-drop o s 0 0)) (bytes (o + 0))

  -- a record
  abbrev Again : ℕ → ℕ → ℕ → Figure → Type 0
  Again at next i f = (i < 256) × (record_bytes i f ++ drop next s ≡ drop at s)

  abbrev IfAgain : ℕ → Read → Type 0
  IfAgain at (read.Record r) = Again at r.next r.ink r.figure
  IfAgain at read.End = Unit {0}
  IfAgain at (read.Refused q o) = Unit {0}

  -- the values of a row, and that the figure they make is written by it
  abbrev values_at : ℕ → Row → List ℤ
  values_at at row = values_from row.payload (payload_at s at) 0

  record WrittenBy (row : Row) (at : ℕ) : Type 0 where
    counts : Counts row
    ink : number_in (values_at at row) 0 ≡ get_or (payload_at s at) 0 0
    writes : record_bytes (number_in (values_at at row) 0) (row.figure (values_at at row)) ≡ row_bytes row (values_at at row)

  written_by : (at : ℕ) → Each (λ (row : Row). WrittenBy row at) table
  unfolding record_bytes values_from table line_row circle_row ellipse_row curve_row cubic_row
  written_by at = (
    record { counts = refl; ink = refl; writes = refl },
    (
      record { counts = refl; ink = refl; writes = refl },
      (
        record { counts = refl; ink = refl; writes = refl },
        (
          record { counts = refl; ink = refl; writes = refl },
          (record { counts = refl; ink = refl; writes = refl }, tt),
        ),
      ),
    ),
  )

  row_made : (at : ℕ) (row : Row) → WrittenBy row at → at + 4 ≤ at + 2 + word_value_at s at → at + 2 + word_value_at s at ≤ length s
      → word_value_at s (at + 2) ≡ row.kind → length (payload_at s at) ≡ widths row.payload
      → Again at (at + 2 + word_value_at s at) (number_in (values_at at row) 0) (row.figure (values_at at row))
  row_made at row W a b e m =
      let c = W.counts in
      let n = length_holds s at (omega arith) (omega arith) (omega arith) in (
        subst (λ (i : ℕ). i < 256) (sym W.ink) (ink_byte (at + 4) (word_value_at s at - 2)),
        ap (λ (x : List ℕ). x ++ drop (at + 2 + word_value_at s at) s) W.writes ∙ row_again at row c e (omega arith) b,
      )

  if_again : (at : ℕ) → IfAgain at (read_at s at)
  unfolding read_at
  if_again at =
      let P : Found → Type 0 = λ f. IfAgain at (read_of f) in
      let no : (q : Refusal) (o : ℕ) → at ≤ o → o < length s → P (refused q o) = λ q o a b. tt in
      found_has s at P no (λ e. tt)
      (λ a b i. kind_has at (length s) P no (payload_at s at) _ i _ (each_as table (λ row W e m l. row_made at row W a b e m) (written_by at)))

  pub record_again : (at : ℕ) (r : Record) → read.Record r ≡ read_at s at → Again at r.next r.ink r.figure
  record_again at r e = subst (IfAgain at) (sym e) (if_again at)

  -- an accepted file from an offset on: its records written again are its bytes, and none is refused for its fields
  abbrev Rewritten : ℕ → List Record → Type 0
  Rewritten at rs = (all_bytes (map item_of rs) ≡ drop at s) × AllSound (map item_of rs)

  -- by what is read at the offset, where it holds of what follows a record
  read_again : (at : ℕ) (rs : List Record) → read_from s at ≡ holds rs
      → ((r : Record) → at + 4 ≤ r.next → r.next ≤ length s → (ks : List Record) → read_from s r.next ≡ holds ks → Rewritten r.next ks)
      → (q : Read) → q ≡ read_at s at → Rewritten at rs
  read_again at rs e onward (read.Record r) f =
      let o = from_holds r (read_from s r.next) rs (sym (from_record s at r f) ∙ e) in
      let p = stands s at r f in
      let a = record_again at r f in
      let rest = onward r p.on p.inside o.rest o.after in
      subst (Rewritten at) (sym o.is)
      (ap (λ (b : List ℕ). record_bytes r.ink r.figure ++ b) rest.0 ∙ a.1, (a.0, (p.sound, rest.1)))
  read_again at rs e onward read.End f =
      let none : rs ≡ [] = ap records_of (sym e ∙ from_end s at f) in
      subst (Rewritten at) (sym none) (sym (drop_of_length-le s (at_file_end s at f)), tt)
  read_again at rs e onward (read.Refused q o) f = absurd (never_holds q o rs (sym (from_refusal s at q o f) ∙ e))

  from_again : (n at : ℕ) → length s - at < n → (rs : List Record) → read_from s at ≡ holds rs → Rewritten at rs
  from_again zero at h rs e = absurd (omega arith)
  from_again (suc n) at h rs e = read_again at rs e (λ r l i ks g. from_again n r.next (omega arith) ks g) (read_at s at) refl

  pub file_again : (rs : List Record) → read_all s ≡ holds rs → (all_bytes (map item_of rs) ≡ s) × AllSound (map item_of rs)
  unfolding read_all
  file_again rs e = from_again (suc (length s - 0)) 0 (omega arith) rs e
