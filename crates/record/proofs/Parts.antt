-- The walk of a rescue: each part goes on, none leads past the file's end, and what holds of each holds of all.
use Prim.Native.Nat.{ℕ, zero, suc, ◌-◌, ◌≤◌, ◌<◌}
use mathlib.Core.Path.{◌≡◌, refl, sym, subst, ap, ◌∙◌}
use mathlib.Core.List.{List, [], ◌∷◌}
use mathlib.Core.Bool.{Bool, true, false}
use native.Mathlib.Omega.{arith}
use borrow.Author.Tests.{eqb-false}
use lib.Dec.{eqb}
use lib.ListN.{length}
use Rattle.sheet.specs.Reply.{number}
use Rattle.sheet.specs.declared.refusal.Refusal.{Refusal}
use Rattle.record.specs.Reading.{read_at}
use Rattle.record.specs.Rescue.{Part, sound, left_out, left_out_end, walked, parts_in, parts_from}
use Rattle.record.specs.declared.types.Record.{Record}
use Rattle.record.specs.declared.types.Read.{Read}
use Rattle.record.specs.declared.types.Read.TheVariants as read
use Rattle.record.proofs.Frames.{at_end}
use Rattle.record.proofs.Ended.{Refused, at_file_end, at_refusal}
use Rattle.record.proofs.Stands.{stands}

-- what is left out has a byte at least, and ends within the file
pub record Leaves (s : List ℕ) (at n : ℕ) : Type 0 where
  pub on : at < left_out_end s at n
  pub inside : left_out_end s at n ≤ length s

pub leaves : (s : List ℕ) (at n : ℕ) → Refused s at n → Leaves s at n
leaves s at n h = by (eqb n 8) refl
  where
    by : (t : Bool) → eqb n 8 ≡ t → Leaves s at n
    by true e = record { on = rw e h.here; inside = rw e (omega arith) }
    by false e =
        let w = h.whole (eqb-false n 8 e) in
        record { on = rw e (omega arith); inside = rw e w }

module _ (s : List ℕ) where
  -- what follows matters only after a part
  walked_as : (at : ℕ) (f g : ℕ → List Part) (q : Read) → q ≡ read_at s at → ((next : ℕ) → at < next → next ≤ length s → f next ≡ g next)
      → walked s at f q ≡ walked s at g q
  walked_as at f g (read.Record r) e h =
      let p = stands s at r e in
      ap (λ (ps : List Part). sound r ∷ ps) (h r.next (omega (arith, p.on)) p.inside)
  walked_as at f g read.End e h = refl
  walked_as at f g (read.Refused q o) e h =
      let l = leaves s at (number q) (at_refusal s at q o e) in
      ap (λ (ps : List Part). left_out q at (left_out_end s at (number q)) ∷ ps) (h _ l.on l.inside)

  -- more turns than bytes are left change nothing
  enough : (m n at : ℕ) → length s - at < m → length s - at < n → parts_in m s at ≡ parts_in n s at
  unfolding parts_in
  enough zero n at h g = absurd (omega arith)
  enough (suc m) zero at h g = absurd (omega arith)
  enough (suc m) (suc n) at h g =
      walked_as at (parts_in m s) (parts_in n s) (read_at s at) refl (λ next a b. enough m n next (omega arith) (omega arith))

  walk_on : (at : ℕ) → parts_from s at ≡ walked s at (parts_from s) (read_at s at)
  unfolding parts_from parts_in
  walk_on at =
      walked_as at (parts_in (length s - at) s) (parts_from s) (read_at s at) refl
      (λ next a b. enough (length s - at) (suc (length s - next)) next (omega arith) (omega arith))

  module _ (at : ℕ) where
    pub parts_record : (r : Record) → read.Record r ≡ read_at s at → parts_from s at ≡ sound r ∷ parts_from s r.next
    parts_record r e = walk_on at ∙ ap (walked s at (parts_from s)) (sym e)

    pub parts_refused : (q : Refusal) (o : ℕ) → read.Refused q o ≡ read_at s at
        → parts_from s at ≡ left_out q at (left_out_end s at (number q)) ∷ parts_from s (left_out_end s at (number q))
    parts_refused q o e = walk_on at ∙ ap (walked s at (parts_from s)) (sym e)

    pub parts_end : length s ≤ at → parts_from s at ≡ []
    parts_end h = walk_on at ∙ ap (walked s at (parts_from s)) (sym (at_end s at h))

  -- Whatever holds of no parts at the file's end, and of a part before those for which it holds, holds of the walk.
  module _ (P : ℕ → List Part → Type 0) (ends : (at : ℕ) → length s ≤ at → P at [])
      (keeps : (at : ℕ) (r : Record) (ps : List Part) → read.Record r ≡ read_at s at → P r.next ps → P at (sound r ∷ ps))
      (leaves_out : (at : ℕ) (q : Refusal) (o : ℕ) (ps : List Part) → read.Refused q o ≡ read_at s at
      → P (left_out_end s at (number q)) ps → P at (left_out q at (left_out_end s at (number q)) ∷ ps)) where
    by_read : (at : ℕ) → ((next : ℕ) → at < next → next ≤ length s → P next (parts_from s next))
        → (q : Read) → q ≡ read_at s at → P at (parts_from s at)
    by_read at rest (read.Record r) e =
        let p = stands s at r e in
        subst (P at) (sym (parts_record at r e)) (keeps at r _ e (rest r.next (omega (arith, p.on)) p.inside))
    by_read at rest read.End e = let h = at_file_end s at e in subst (P at) (sym (parts_end at h)) (ends at h)
    by_read at rest (read.Refused q o) e =
        let l = leaves s at (number q) (at_refusal s at q o e) in
        subst (P at) (sym (parts_refused at q o e)) (leaves_out at q o _ e (rest _ l.on l.inside))

    walk_in : (n at : ℕ) → length s - at < n → P at (parts_from s at)
    walk_in zero at h = absurd (omega arith)
    walk_in (suc n) at h = by_read at (λ next a b. walk_in n next (omega arith)) (read_at s at) refl

    pub walk_has : (at : ℕ) → P at (parts_from s at)
    walk_has at = walk_in (suc (length s - at)) at (omega arith)
