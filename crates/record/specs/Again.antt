-- Document 02, K1: reading gives back what was written, and writing what was read.
use Rattle.std.specs.Prelude.{ℕ, ◌+◌, ◌≤◌, ◌<◌, ◌≡◌, List, [], ◌∷◌, ◌++◌, map, pos, length, get_or, take, drop}
use Rattle.sheet.specs.Reply.{Answer, done, value_of, settled}
use Rattle.sheet.specs.declared.Figure.{Figure}
use Rattle.record.specs.Reading.{read_at}
use Rattle.record.specs.File.{holds, read_all}
use Rattle.record.specs.Writing.{record_size, Writes}
use Rattle.record.specs.declared.types.Record.{Record}
use Rattle.record.specs.declared.types.Read.TheVariants as read

-- each number of a list is a byte
abbrev pub Bytes : List ℕ → Type 0
Bytes s = (i : ℕ) → get_or s i 0 < 256

-- an ink and a figure, as they are asked to be written; those of a record
pub record Item : Type 0 where
  pub ink : ℕ
  pub figure : Figure

abbrev pub item_of : Record → Item
item_of r = record { ink = r.ink; figure = r.figure }

-- Items that are asked for in turn, each answered as `Writes` has it: the count and the buffer before, the items that were done, the count
-- and the buffer after. One that is refused leaves all of them as they were.
pub data InTurn : (asked : List Item) (filled : ℕ) (s : List ℕ) (kept : List Item) (after : ℕ) (t : List ℕ) → Type 0 where
  none : (n : ℕ) (s : List ℕ) → InTurn [] n s [] n s
  next : (w : Item) (ws ks : List Item) (n m : ℕ) (s t u : List ℕ) (r : Answer) → w.ink < 256 → Writes n w.ink w.figure s r t
      → InTurn ws (settled r (value_of r) n) t ks m u → InTurn (w ∷ ws) n s (settled r (w ∷ ks) ks) m u

-- the record of an item at an offset, and those of items that follow each other
abbrev pub record_at : ℕ → Item → Record
record_at at w = record { offset = at; next = at + record_size w.figure; ink = w.ink; figure = w.figure }

unfoldable pub records_from : ℕ → List Item → List Record
records_from at [] = []
records_from at (w ∷ ws) = record_at at w ∷ records_from (at + record_size w.figure) ws

pub record ReadsAndWrites : Type 0 where
  -- Reading at the old count of what was written gives that record, its offset, the new count as what follows, its ink and its figure.
  pub back : (filled ink n : ℕ) (f : Figure) (s t : List ℕ) → ink < 256 → Writes filled ink f s (done (pos n ∷ [])) t
      → read_at t filled ≡ read.Record (record { offset = filled; next = n; ink = ink; figure = f })
  -- Figures written one after another from count 0 on: the first filled bytes are an accepted file whose records are those figures and inks
  -- in order.
  pub file : (asked kept : List Item) (s t : List ℕ) (filled : ℕ) → InTurn asked 0 s kept filled t
      → read_all (take filled t) ≡ holds (records_from 0 kept)
  -- Any accepted file, read and written again into any buffer that is large enough, is the same bytes: none of it is refused, and the rest of
  -- the buffer stays.
  pub again : (s : List ℕ) (rs : List Record) → Bytes s → read_all s ≡ holds rs
      → (b t : List ℕ) (kept : List Item) (filled : ℕ) → length s ≤ length b → InTurn (map item_of rs) 0 b kept filled t
      → (kept ≡ map item_of rs) × (filled ≡ length s) × (t ≡ s ++ drop (length s) b)
