-- Document 01, "Record file": a whole file, read to its end.
use Rattle.std.specs.Prelude.{ℕ, zero, suc, ◌-◌, List, [], ◌∷◌, pos, length}
use Rattle.sheet.specs.Reply.{Answer, done, refuse_at}
use Rattle.sheet.specs.declared.refusal.Refusal.{Refusal}
use Rattle.record.specs.Reading.{read_at}
use Rattle.record.specs.declared.types.Record.{Record}
use Rattle.record.specs.declared.types.Read.{Read}
use Rattle.record.specs.declared.types.Read.TheVariants as read

-- The records of a file in order, or its first refusal with the offset.
pub data Contents : Type 0 where
  holds : List Record → Contents
  refuses : Refusal → ℕ → Contents

-- a record before what follows it
abbrev pub also : Record → Contents → Contents
also r (holds rs) = holds (r ∷ rs)
also r (refuses q at) = refuses q at

-- the reading goes on only if the read gave a record; the end and a refusal close it
abbrev pub onward : (ℕ → Contents) → Read → Contents
onward rest (read.Record r) = also r (rest r.next)
onward rest read.End = holds []
onward rest (read.Refused q at) = refuses q at

-- at most n reads, from an offset on
unfoldable pub read_in : ℕ → List ℕ → ℕ → Contents
read_in zero s at = holds []
read_in (suc n) s at = onward (read_in n s) (read_at s at)

-- from an offset to the end: one read for each byte left, and one for the end
unfoldable pub read_from : List ℕ → ℕ → Contents
read_from s at = read_in (suc (length s - at)) s at

-- a file is read from its first byte
unfoldable pub read_all : List ℕ → Contents
read_all s = read_from s 0

-- a done file is 0 with its number of records
abbrev pub contents_answer : Contents → Answer
contents_answer (holds rs) = done (pos (length rs) ∷ [])
contents_answer (refuses q at) = refuse_at q at

unfoldable pub file_answer : List ℕ → Answer
file_answer s = contents_answer (read_all s)
