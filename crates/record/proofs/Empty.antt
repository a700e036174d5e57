-- A program that refuses all, one that always replies the same, and one that writes nothing, break the statement of writing: of every figure
-- within its limits, in a buffer with just the room for its record. And so those that copy nothing, or list nothing, break that of a rescue.
use Prim.Native.Nat.{ℕ, zero, suc, ◌+◌, ◌-◌, ◌<◌}
use mathlib.Core.Path.{◌≡◌, refl, sym, subst, ap, ◌∙◌}
use mathlib.Core.List.{List, [], ◌∷◌}
use mathlib.Core.Bool.{true, false}
use native.Mathlib.Omega.{arith}
use borrow.Author.Tests.{eqb-false, le-leb, lt-leb}
use lib.IntN.{pos}
use lib.ListN.{length, get_or, replicate, length-replicate, get_or-replicate}
use Rattle.sheet.specs.Reply.{Answer, number, done, is_done}
use Rattle.sheet.specs.declared.Figure.{Figure}
use Rattle.sheet.specs.declared.refusal.Refusal.TheVariants.{Kindless}
use Rattle.sheet.proofs.Empty.{Both}
use Rattle.sheet.proofs.Figures.{Sound, figure_passes}
use Rattle.sheet.proofs.Unique.{number_not_0}
use Rattle.record.specs.Layout.{word_value_at}
use Rattle.record.specs.Reading.{read_at}
use Rattle.record.specs.File.{holds, read_all}
use Rattle.record.specs.Writing.{record_size, write_answer, put_at, Writes}
use Rattle.record.specs.Rescue.{Part, sound, left_out, parts, offsets_of, numbers_of, Lent, lent_of, rescue_answer, rescued, Rescues}
use Rattle.record.specs.declared.types.Record.{Record}
use Rattle.record.specs.declared.types.Read.TheVariants as read
use Rattle.record.proofs.Frames.{under_2}
use Rattle.record.proofs.Again.{reads_and_writes}
use Rattle.record.proofs.Lost.{whole}

module _ (f : Figure) (l : Sound f) where
  -- with just the room, and with none
  has_room : write_answer 0 f (record_size f) ≡ done (pos (0 + record_size f) ∷ [])
  unfolding write_answer
  has_room = figure_passes f _ l ∙ simp (le-leb (record_size f) (record_size f - 0) (omega arith))

  no_room : is_done (write_answer 0 f 0) ≡ false
  unfolding write_answer
  no_room = ap is_done (figure_passes f _ l) ∙ simp (lt-leb (record_size f) (0 - 0) (omega arith))

  pub write_both : Both (write_answer 0 f) (record_size f) 0
  write_both = record { done = ap is_done has_room; refused = no_room }

  -- a buffer of zeros, left as it was, has no record
  pub write_stores : (ink : ℕ) → ink < 256 → (a : Answer) → Writes 0 ink f (replicate (record_size f) 0) a (replicate (record_size f) 0) → ⊥
  write_stores ink b a w =
      let s : List ℕ = replicate (record_size f) 0 in
      let n : length s ≡ record_size f = length-replicate (record_size f) 0 in
      let first : get_or s 0 0 ≡ 0 = get_or-replicate (record_size f) 0 0 0 (omega arith) in
      let second : get_or s (0 + 1) 0 ≡ 0 = get_or-replicate (record_size f) (0 + 1) 0 0 (omega arith) in
      let zeros : word_value_at s 0 ≡ 0 = omega arith in
      let answer : a ≡ done (pos (0 + record_size f) ∷ []) = w.tells ∙ ap (write_answer 0 f) n ∙ has_room in
      let back = reads_and_writes.back 0 ink (0 + record_size f) f s s b (subst (λ (a : Answer). Writes 0 ink f s a s) answer w) in
      let none : read.Refused Kindless 0 ≡ read_at s 0 = under_2 s 0 0 (sym zeros) (omega arith) (omega arith) (omega arith) (omega arith) in
      let z : ◌≡◌ {A = ℕ} 0 1 = cc in
      omega arith

-- what is lent to a rescue, all zeros: so many bytes, and in each list so many places
abbrev zeros_of : ℕ → List ℕ
zeros_of n = replicate n 0

abbrev pub zeros : ℕ → ℕ → Lent
zeros bytes places = lent_of (zeros_of bytes) (zeros_of places) (zeros_of places)

module _ (s : List ℕ) where
  rescue_done : is_done (rescue_answer s (zeros (length s) (length s))) ≡ true
  unfolding rescue_answer
  rescue_done =
      let e : length (zeros_of (length s)) ≡ length s = length-replicate (length s) 0 in
      simp (le-leb (length s) (length (zeros_of (length s))) (omega arith))

  rescue_refused : 0 < length s → is_done (rescue_answer s (zeros 0 (length s))) ≡ false
  unfolding rescue_answer
  rescue_refused h = simp (lt-leb (length s) 0 h)

  -- every file that is not empty
  pub rescue_both : 0 < length s → Both (λ (n : ℕ). rescue_answer s (zeros n (length s))) (length s) 0
  rescue_both h = record { done = rescue_done; refused = rescue_refused h }

  first_put : (b : List ℕ) (n : ℕ) → put_at 0 b (zeros_of n) ≡ zeros_of n → get_or b 0 0 ≡ 0
  first_put [] n e = refl
  first_put (x ∷ b) n e = ap (λ (l : List ℕ). get_or l 0 0) e ∙ first n
    where
      first : (n : ℕ) → get_or (zeros_of n) 0 0 ≡ 0
      first zero = refl
      first (suc n) = refl

  left_as_lent : (a : Answer) → Rescues s (zeros (length s) (length s)) a (zeros (length s) (length s))
      → zeros (length s) (length s) ≡ rescued s (zeros (length s) (length s))
  left_as_lent a h = h.leaves ∙ simp rescue_done

  -- a sound file that begins with a byte other than 0: what was lent cannot stay
  pub rescue_copies : (rs : List Record) → read_all s ≡ holds rs → (get_or s 0 0 ≡ 0 → ⊥) → (a : Answer)
      → Rescues s (zeros (length s) (length s)) a (zeros (length s) (length s)) → ⊥
  unfolding rescued
  rescue_copies rs e first a h =
      let copy = ap (λ (l : Lent). l.copy) (left_as_lent a h) in
      first (first_put s (length s) (ap (λ (b : List ℕ). put_at 0 b (zeros_of (length s))) (sym (whole s rs e).0) ∙ sym copy))

  first_number : (ps : List Part) → (offsets_of ps ≡ [] → ⊥) → get_or (numbers_of ps) 0 0 ≡ 0 → ⊥
  first_number [] some e = some refl
  first_number (sound r ∷ ps) some e = first_number ps some e
  first_number (left_out q from to ∷ ps) some e = eqb-false (number q) 0 (number_not_0 q) e

  -- and so of any file that is not sound
  pub rescue_lists : (offsets_of (parts s) ≡ [] → ⊥) → (a : Answer)
      → Rescues s (zeros (length s) (length s)) a (zeros (length s) (length s)) → ⊥
  unfolding rescued
  rescue_lists some a h =
      let numbers = ap (λ (l : Lent). l.numbers) (left_as_lent a h) in
      first_number (parts s) some (first_put (numbers_of (parts s)) (length s) (sym numbers))
