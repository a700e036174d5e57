-- Document 02, K11: what a rescue keeps, and that nothing is lost without a line saying so.
use Rattle.std.specs.Prelude.{ℕ, ◌≤◌, ◌<◌, ◌≡◌, List, [], ◌∷◌, true, pos, length, get_or, take}
use Rattle.sheet.specs.Reply.{Answer, done, is_done}
use Rattle.record.specs.File.{holds, read_all}
use Rattle.record.specs.Again.{Bytes, item_of}
use Rattle.record.specs.Rescue.{Part, left_out_end, parts, between, sound_ones, copy_of, offsets_of, numbers_of, Lent, Rescues}
use Rattle.record.specs.declared.types.Record.{Record}

-- the records of one file and those of another, in order: the same inks and figures, and the same bytes
pub data Alike (s t : List ℕ) : List Record → List Record → Type 0 where
  none : Alike s t [] []
  next : (r q : Record) (rs qs : List Record) → item_of r ≡ item_of q
      → between s r.offset r.next ≡ between t q.offset q.next → Alike s t rs qs → Alike s t (r ∷ rs) (q ∷ qs)

-- a copy that is an accepted file: its records, and that they are those of the other that read well
pub record Accepted (s copy : List ℕ) (ps : List Part) : Type 0 where
  pub records : List Record
  pub reads : read_all copy ≡ holds records
  pub alike : Alike s copy (sound_ones ps) records

-- a record is one of a list
pub data Among (r : Record) : List Record → Type 0 where
  first : (rs : List Record) → Among r (r ∷ rs)
  later : (q : Record) (rs : List Record) → Among r rs → Among r (q ∷ rs)

-- A byte is accounted for: it is in a record that is copied; or a place of the lists names it, as one of a record left out or, where the
-- number is 8, as one from the stopping place on.
pub data Accounted (s : List ℕ) (i : ℕ) (ps : List Part) : Type 0 where
  copied : (r : Record) → Among r (sound_ones ps) → r.offset ≤ i → i < r.next → Accounted s i ps
  listed : (k : ℕ) → k < length (offsets_of ps) → get_or (offsets_of ps) k 0 ≤ i
      → i < left_out_end s (get_or (offsets_of ps) k 0) (get_or (numbers_of ps) k 0) → Accounted s i ps

pub record NothingLost : Type 0 where
  -- What is copied is an accepted file, and its records are the file's that read well, in order, each byte for byte.
  pub accepted : (s : List ℕ) → Bytes s → Accepted s (copy_of s (parts s)) (parts s)
  -- A sound file is copied whole, with an empty list; and where the list is empty, the file is sound.
  pub whole : (s : List ℕ) (rs : List Record) → read_all s ≡ holds rs
      → (copy_of s (parts s) ≡ s) × (offsets_of (parts s) ≡ []) × (numbers_of (parts s) ≡ [])
  pub sound : (s : List ℕ) → offsets_of (parts s) ≡ [] → read_all s ≡ holds (sound_ones (parts s))
  -- Rescuing what was rescued, with any room that is enough: as many bytes are copied, they are the same, and nothing is listed.
  pub twice : (s : List ℕ) → Bytes s → (lent left again after : Lent) (n k : ℕ) (r : Answer)
      → Rescues s lent (done (pos n ∷ pos k ∷ [])) left → Rescues (take n left.copy) again r after → is_done r ≡ true
      → (r ≡ done (pos n ∷ pos 0 ∷ [])) × (take n after.copy ≡ take n left.copy)
      × (after.offsets ≡ again.offsets) × (after.numbers ≡ again.numbers)
  -- Every byte of the file is accounted for.
  pub accounted : (s : List ℕ) (i : ℕ) → i < length s → Accounted s i (parts s)
