-- Document 01, "Reply numbers", with those of document 02: the table, and what a reply is; a drawing's with the rectangle of K7.
use Rattle.std.specs.Prelude.{ℕ, List, [], ◌∷◌, Bool, cond, eqb, ℤ, pos, nat_abs, get_or, codes, Result, Ok, Err, Option, Some, None}
use Rattle.sheet.specs.declared.refusal.Refusal.{Refusal}
use Rattle.sheet.specs.declared.refusal.FileRefusal.{FileRefusal}
use Rattle.sheet.specs.declared.refusal.Refusal.TheVariants.{Size, Coordinate, Radius, Pieces, Room, Survey, NoCell, Short, Kind, Length, Full, Buffer, Header, Pixels, Slice, Kindless, Work, Start, Places, Tally}
use Rattle.sheet.specs.declared.Drawn.{Drawn}
use Rattle.sheet.specs.declared.repaint.Rectangle.{Rectangle}
use Rattle.sheet.specs.Repaint.{nothing}

-- the refusal's number in the table
abbrev pub number : Refusal → ℕ
number Size = 1
number Coordinate = 2
number Radius = 3
number Pieces = 4
number Room = 5
number Survey = 6
number NoCell = 7
number Short = 8
number Kind = 9
number Length = 10
number Full = 11
number Buffer = 12
number Header = 13
number Pixels = 14
number Slice = 15
number Kindless = 16
number Work = 17
number Start = 18
number Places = 19
number Tally = 20

-- the table's words for it
abbrev pub words : Refusal → List ℕ
words Size = codes "a width or height outside 1 to 4,096, or a pitch below the width or above 8,192"
words Coordinate = codes "a coordinate outside -16,384 to 16,383"
words Radius = codes "a radius or semi-axis outside 0 to 16,383, or a semi-axis of 0 beside one that is not"
words Pieces = codes "an s above 6"
words Room = codes "a lent list with fewer places than the line has cells, or than the file to be rescued has bytes"
words Survey = codes "an origin of the survey that is not finite, or a cell size that is not finite or not above zero"
words NoCell = codes "a position or length in metres with no cell in -16,384 to 16,383"
words Short = codes "a record length that is cut off after 1 byte, or that counts more bytes than are left"
words Kind = codes "an unknown record kind"
words Length = codes "a record length that is not that of its kind"
words Full = codes "a buffer with fewer free bytes than the record takes, or with fewer bytes than the file to be rescued"
words Buffer = codes "a buffer with fewer bytes than the picture takes"
words Header = codes "a picture whose header breaks the rules of raw PBM, or names another size than the sheet's"
words Pixels = codes "a picture with fewer bytes after its header than its rows take"
words Slice = codes "a slice length other than pitch x height"
words Kindless = codes "a record length under 2, which leaves no room for a kind"
words Work = codes "a work slice with fewer than width x height places"
words Start = codes "a start off the sheet"
words Places = codes "a tally with more or fewer places than the sheet has rows"
words Tally = codes "a tally in which the number of a row is not that of its nonzero cells"

-- the paper's answer: a number of the table, the values that go with it, and the rectangle that a drawing tells
pub record Answer : Type 0 where
  pub number : ℕ
  pub values : List ℤ
  pub box : Rectangle

-- 0 with its values; a refusal's number alone; and, of a file, with its offset
abbrev pub done : List ℤ → Answer
done values = record { number = 0; values = values; box = nothing }

abbrev pub refuse : Refusal → Answer
refuse r = record { number = number r; values = []; box = nothing }

abbrev pub refuse_at : Refusal → ℕ → Answer
refuse_at r at = record { number = number r; values = pos at ∷ []; box = nothing }

-- A reply in the paper's words: of an Ok what is told of its value, of an Err the refusal.
abbrev pub told : {A : Type 0} → (A → Answer) → Result A Refusal → Answer
told answer (Ok a) = answer a
told answer (Err r) = refuse r

-- a file's reply: its refusal with the offset
abbrev pub told_file : {A : Type 0} → (A → Answer) → Result A FileRefusal → Answer
told_file answer (Ok a) = answer a
told_file answer (Err f) = refuse_at f.refusal f.offset

-- one that is asked for until it is finished: "finished" is 0 alone
abbrev pub told_next : {A : Type 0} → (A → Answer) → Option A → Answer
told_next answer (Some a) = answer a
told_next answer None = done []

-- what is told of a value: of a test 0 alone; of a number 0 and the number; of a drawing these, with its rectangle
abbrev pub test_answer : Unit {0} → Answer
test_answer _ = done []

abbrev pub count_answer : ℕ → Answer
count_answer n = done (pos n ∷ [])

abbrev pub with_box : Answer → Rectangle → Answer
with_box a r = record { number = a.number; values = a.values; box = r }

abbrev pub count_values : Option ℕ → List ℤ
count_values (Some n) = pos n ∷ []
count_values None = []

abbrev pub drawn_answer : Drawn → Answer
drawn_answer d = with_box (done (count_values d.count)) d.rectangle

-- whether an answer is 0, and its first value, or 0 where it has none
abbrev pub is_done : Answer → Bool
is_done a = eqb a.number 0

abbrev pub value_of : Answer → ℕ
value_of a = nat_abs (get_or a.values 0 (pos 0))

-- the refusal unless the test holds, and then what follows: tests in the order of the paper
abbrev pub unless : Bool → Refusal → Answer → Answer
unless test r next = cond test next (refuse r)

-- what is lent, after an answer: as the drawing leaves it, or untouched by a refusal
abbrev pub settled {ℓ} : {A : Type ℓ} → Answer → A → A → A
settled a drawn before = cond (is_done a) drawn before
