-- What only the inner functions promise each other.
use Rattle.std.specs.Prelude.{ℕ, ◌+◌, ◌^◌, ◌≤◌, ◌<◌, ◌≡◌, List, ◌++◌, Bool, true, cond, ◌&&◌, eqb, pos, length, get_or, Option, Some, None, Result, Ok, Err}
use Rattle.sheet.specs.Sheet as sheet
use Rattle.sheet.specs.declared.Cell.{Cell}
use Rattle.sheet.specs.declared.Figure.{Figure}
use Rattle.sheet.specs.declared.Figure.TheVariants.{Line, Circle, Ellipse, Curve, Cubic}
use Rattle.sheet.specs.declared.refusal.Refusal.{Refusal}
use Rattle.sheet.specs.declared.refusal.Refusal.TheVariants.{Coordinate, Radius, Pieces, Length}
use Rattle.sheet.specs.declared.refusal.FileRefusal.{FileRefusal}
use Rattle.record.specs.Layout.{length_word, kind_word, ink, coordinate, word_value_at, value_at, payload_place}
use Rattle.record.specs.Reading.{axis_at, read_at}
use Rattle.record.specs.Writing.{field_bytes}
use Rattle.record.specs.Rescue.{Lent}
use Rattle.record.specs.declared.types.Record.{Record}
use Rattle.record.specs.declared.types.Read.{Read}
use Rattle.record.specs.declared.types.Read.TheVariants as read

-- a payload of a record at an offset ends where the machine's words still count
abbrev pub Counts : ℕ → List ℕ → Type 0
Counts at p = payload_place at + length p < 2 ^ 64

-- what a decoder answers: a refusal with its offset, a value unless a test fails, and what follows a value
abbrev pub refused_at : {A : Type 0} → Refusal → ℕ → Result A FileRefusal
refused_at r at = Err (record { refusal = r; offset = at })

abbrev pub if_within : {A : Type 0} → Bool → Refusal → ℕ → Result A FileRefusal → Result A FileRefusal
if_within test r at next = cond test next (refused_at r at)

abbrev pub then_read : {A B E : Type 0} → Result A E → (A → Result B E) → Result B E
then_read (Ok a) next = next a
then_read (Err f) next = Err f

-- the cell at a place of the payload of a record at an offset: x, then y
abbrev pub cell_read : List ℕ → ℕ → ℕ → Result Cell FileRefusal
cell_read p at k =
    let c = sheet.cell (value_at coordinate p k) (value_at coordinate p (k + 2)) in
    if_within (sheet.coordinate c.x) Coordinate (payload_place at + k)
    (if_within (sheet.coordinate c.y) Coordinate (payload_place at + (k + 2)) (Ok c))

-- its first three control points
abbrev pub three_read : List ℕ → ℕ → Result (Cell × Cell × Cell) FileRefusal
three_read p at =
    then_read (cell_read p at 1) (λ a. then_read (cell_read p at 5) (λ b. then_read (cell_read p at 9) (λ c. Ok (a, b, c))))

-- the semi-axis at a place, beside the other at another, and s at a place
abbrev pub axis_read : List ℕ → ℕ → ℕ → ℕ → Result ℕ FileRefusal
axis_read p at k l = if_within (axis_at p k l) Radius (payload_place at + k) (Ok (word_value_at p k))

abbrev pub split_read : List ℕ → ℕ → ℕ → Result ℕ FileRefusal
split_read p at k = if_within (sheet.split (get_or p k 0)) Pieces (payload_place at + k) (Ok (get_or p k 0))

-- the figure of a payload of each kind
abbrev pub line_read : List ℕ → ℕ → Result Figure FileRefusal
line_read p at =
    if_within (eqb (length p) 9) Length at
    (then_read (cell_read p at 1) (λ a. then_read (cell_read p at 5) (λ b. Ok (Line a b))))

abbrev pub circle_read : List ℕ → ℕ → Result Figure FileRefusal
circle_read p at =
    if_within (eqb (length p) 7) Length at
    (then_read (cell_read p at 1) (λ c. then_read (axis_read p at 5 5) (λ r. Ok (Circle c r))))

abbrev pub ellipse_read : List ℕ → ℕ → Result Figure FileRefusal
ellipse_read p at =
    if_within (eqb (length p) 9) Length at
    (then_read (cell_read p at 1) (λ c. then_read (axis_read p at 5 7) (λ a. then_read (axis_read p at 7 5) (λ b. Ok (Ellipse c a b)))))

abbrev pub curve_read : List ℕ → ℕ → Result Figure FileRefusal
curve_read p at =
    if_within (eqb (length p) 14) Length at
    (then_read (three_read p at) (λ t. then_read (split_read p at 13) (λ s. Ok (Curve t.0 t.1 t.2 s))))

abbrev pub cubic_read : List ℕ → ℕ → Result Figure FileRefusal
cubic_read p at =
    if_within (eqb (length p) 18) Length at
    (then_read (three_read p at) (λ t. then_read (cell_read p at 13) (λ q. then_read (split_read p at 17) (λ s. Ok (Cubic t.0 t.1 t.2 q s)))))

-- what a read answers of what its decoder answered
abbrev pub read_decoded : ℕ → ℕ → List ℕ → Result Figure FileRefusal → Read
read_decoded at next p (Ok f) = read.Record (record { offset = at; next = next; ink = get_or p 0 0; figure = f })
read_decoded at next p (Err f) = read.Refused f.refusal f.offset

-- a read that is no record, after n records
abbrev pub closed_by : Read → ℕ → Result ℕ FileRefusal
closed_by (read.Record r) n = Ok n
closed_by read.End n = Ok n
closed_by (read.Refused q at) n = Err (record { refusal = q; offset = at })

-- what a writer answers of a test, and of a figure's fields
abbrev pub tested : Bool → Refusal → Result (Unit {0}) Refusal
tested t r = cond t (Ok tt) (Err r)

abbrev pub figure_tested : Figure → Result (Unit {0}) Refusal
figure_tested (Line a b) = tested (sheet.within_limits a && sheet.within_limits b) Coordinate
figure_tested (Circle c r) = then_read (tested (sheet.within_limits c) Coordinate) (λ _. tested (sheet.axes r r) Radius)
figure_tested (Ellipse c a b) = then_read (tested (sheet.within_limits c) Coordinate) (λ _. tested (sheet.axes a b) Radius)
figure_tested (Curve p q r s) =
    then_read (tested (sheet.within_limits p && sheet.within_limits q && sheet.within_limits r) Coordinate) (λ _. tested (sheet.split s) Pieces)
figure_tested (Cubic p q r t s) =
    then_read (tested (sheet.within_limits p && sheet.within_limits q && sheet.within_limits r && sheet.within_limits t) Coordinate)
    (λ _. tested (sheet.split s) Pieces)

-- a figure that is not refused, and a buffer of n bytes with room for its record
abbrev pub Writable : Figure → ℕ → ℕ → Type 0
Writable (Line a b) filled n = (filled + 13 ≤ n) × (sheet.within_limits a ≡ true) × (sheet.within_limits b ≡ true)
Writable (Circle c r) filled n = (filled + 11 ≤ n) × (sheet.within_limits c ≡ true)
Writable (Ellipse c a b) filled n = (filled + 13 ≤ n) × (sheet.within_limits c ≡ true)
Writable (Curve p q r s) filled n =
    (filled + 18 ≤ n) × (sheet.within_limits p ≡ true) × (sheet.within_limits q ≡ true) × (sheet.within_limits r ≡ true)
Writable (Cubic p q r t s) filled n =
    (filled + 22 ≤ n) × (sheet.within_limits p ≡ true) × (sheet.within_limits q ≡ true) × (sheet.within_limits r ≡ true)
    × (sheet.within_limits t ≡ true)

-- what each record begins with, its length, its kind and its ink; and a cell of its payload
abbrev pub head_bytes : ℕ → ℕ → ℕ → List ℕ
head_bytes counts kind i = field_bytes length_word (pos counts) ++ field_bytes kind_word (pos kind) ++ field_bytes ink (pos i)

abbrev pub cell_bytes : Cell → List ℕ
cell_bytes c = field_bytes coordinate c.x ++ field_bytes coordinate c.y

-- Records that read well one after another, from an offset to another.
pub data Follow (s : List ℕ) (from : ℕ) : ℕ → Type 0 where
  none : Follow s from from
  more : (at : ℕ) (r : Record) → Follow s from at → read.Record r ≡ read_at s at → Follow s from r.next

-- what ends them: the file's end, or what is refused there
pub data Ends (s : List ℕ) (at : ℕ) : Option Refusal → Type 0 where
  file_ends : read.End ≡ read_at s at → Ends s at None
  refused : (q : Refusal) (o : ℕ) → read.Refused q o ≡ read_at s at → Ends s at (Some q)

pub record Ran (s : List ℕ) (from end : ℕ) (refusal : Option Refusal) : Type 0 where
  pub follow : Follow s from end
  pub ends : Ends s end refusal

abbrev pub refusal_at_end : Read → Option Refusal
refusal_at_end (read.Record r) = None
refusal_at_end read.End = None
refusal_at_end (read.Refused q o) = Some q

-- what is lent to a rescue has room for all of a file
pub record HasRoom (s : List ℕ) (l : Lent) : Type 0 where
  pub copy : length s ≤ length l.copy
  pub offsets : length s ≤ length l.offsets
  pub numbers : length s ≤ length l.numbers
