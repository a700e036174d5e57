-- Document 02, K11: rescuing a damaged file.
use Rattle.std.specs.Prelude.{ℕ, zero, suc, ◌+◌, ◌-◌, ◌≡◌, List, [], ◌∷◌, ◌++◌, cond, ◌&&◌, leb, eqb, pos, length, take, drop}
use Rattle.sheet.specs.Reply.{Answer, number, done, unless, settled}
use Rattle.sheet.specs.declared.refusal.Refusal.{Refusal}
use Rattle.sheet.specs.declared.refusal.Refusal.TheVariants.{Room, Short, Full}
use Rattle.record.specs.Layout.{word_value_at, kind_place}
use Rattle.record.specs.Reading.{read_at}
use Rattle.record.specs.Writing.{put_at}
use Rattle.record.specs.declared.types.Record.{Record}
use Rattle.record.specs.declared.types.Read.{Read}
use Rattle.record.specs.declared.types.Read.TheVariants as read
use Rattle.record.specs.declared.types.Rescued.{Rescued}

-- A part of a file: a record that reads well, or bytes that are left out, why, and from which offset to which.
pub data Part : Type 0 where
  sound : Record → Part
  left_out : Refusal → ℕ → ℕ → Part

-- where what is left out at an offset ends, given its number: as its length says; but at 8, where nobody can tell, it is all the rest
abbrev pub left_out_end : List ℕ → ℕ → ℕ → ℕ
left_out_end s at n = cond (eqb n (number Short)) (length s) (kind_place at + word_value_at s at)

-- what is read at an offset is a part, before those from the next offset on
abbrev pub walked : List ℕ → ℕ → (ℕ → List Part) → Read → List Part
walked s at rest (read.Record r) = sound r ∷ rest r.next
walked s at rest read.End = []
walked s at rest (read.Refused q o) = left_out q at (left_out_end s at (number q)) ∷ rest (left_out_end s at (number q))

-- at most n parts, from an offset on
unfoldable pub parts_in : ℕ → List ℕ → ℕ → List Part
parts_in zero s at = []
parts_in (suc n) s at = walked s at (parts_in n s) (read_at s at)

-- from an offset to the end: one for each byte left, and one for the end
unfoldable pub parts_from : List ℕ → ℕ → List Part
parts_from s at = parts_in (suc (length s - at)) s at

-- The walk over a file, from its first byte.
unfoldable pub parts : List ℕ → List Part
parts s = parts_from s 0

-- the bytes of a file from an offset up to another
abbrev pub between : List ℕ → ℕ → ℕ → List ℕ
between s from to = take (to - from) (drop from s)

-- of parts, in order: the records that read well, and their bytes
abbrev pub sound_ones : List Part → List Record
sound_ones [] = []
sound_ones (sound r ∷ ps) = r ∷ sound_ones ps
sound_ones (left_out q from to ∷ ps) = sound_ones ps

abbrev pub copy_of : List ℕ → List Part → List ℕ
copy_of s [] = []
copy_of s (sound r ∷ ps) = between s r.offset r.next ++ copy_of s ps
copy_of s (left_out q from to ∷ ps) = copy_of s ps

-- the offset of the first byte of each that is left out, and its number
abbrev pub offsets_of : List Part → List ℕ
offsets_of [] = []
offsets_of (sound r ∷ ps) = offsets_of ps
offsets_of (left_out q from to ∷ ps) = from ∷ offsets_of ps

abbrev pub numbers_of : List Part → List ℕ
numbers_of [] = []
numbers_of (sound r ∷ ps) = numbers_of ps
numbers_of (left_out q from to ∷ ps) = number q ∷ numbers_of ps

-- what is lent to a rescue
pub record Lent : Type 0 where
  pub copy : List ℕ
  pub offsets : List ℕ
  pub numbers : List ℕ

abbrev pub lent_of : List ℕ → List ℕ → List ℕ → Lent
lent_of copy offsets numbers = record { copy = copy; offsets = offsets; numbers = numbers }

-- 11 where the buffer has fewer bytes than the file, then 5 where either list has fewer places than the file has bytes, else 0 with how
-- many bytes are copied and how many places of each list are filled.
unfoldable pub rescue_answer : List ℕ → Lent → Answer
rescue_answer s l =
    unless (leb (length s) (length l.copy)) Full
    (unless (leb (length s) (length l.offsets) && leb (length s) (length l.numbers)) Room
    (done (pos (length (copy_of s (parts s))) ∷ pos (length (offsets_of (parts s))) ∷ [])))

-- what is copied and listed stands at the beginning of what was lent, and the rest stays
unfoldable pub rescued : List ℕ → Lent → Lent
rescued s l = record {
  copy = put_at 0 (copy_of s (parts s)) l.copy;
  offsets = put_at 0 (offsets_of (parts s)) l.offsets;
  numbers = put_at 0 (numbers_of (parts s)) l.numbers;
}

-- Rescuing a file: the reply is the answer, and what was lent holds copy and lists, or is untouched by a refusal.
pub record Rescues (file : List ℕ) (lent : Lent) (reply : Answer) (left : Lent) : Type 0 where
  pub tells : reply ≡ rescue_answer file lent
  pub leaves : left ≡ settled (rescue_answer file lent) (rescued file lent) lent

-- what is told of a done rescue: 0 with both counts
abbrev pub rescued_answer : Rescued → Answer
rescued_answer r = done (pos r.copied ∷ pos r.listed ∷ [])
