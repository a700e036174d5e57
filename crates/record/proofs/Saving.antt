-- The loop of `rescue`: what was copied and listed, and what the walk still gives, make the whole.
use Prim.Native.Nat.{ℕ, ◌+◌, ◌-◌, ◌≤◌, ◌<◌}
use mathlib.Core.Path.{◌≡◌, refl, sym, subst, ap, ap₂, ◌∙◌}
use mathlib.Core.List.{List, [], ◌∷◌, ◌++◌, append_assoc, append-nil}
use native.Mathlib.Omega.{arith}
use borrow.Author.Tests.{le-leb, lt-leb}
use Rattle.std.specs.Prelude.{Some, None}
use lib.IntN.{pos}
use lib.ListN.{length, set, take, drop, length-append}
use lib.Seq.{sets, sets-eq, length-sets}
use Rattle.sheet.specs.Reply.{number, done, refuse}
use Rattle.sheet.specs.declared.refusal.Refusal.{Refusal}
use Rattle.sheet.specs.declared.refusal.Refusal.TheVariants.{Room, Short, Full}
use Rattle.laws.proofs.Written.{put_part}
use Rattle.sheet.proofs.Unique.{number_one}
use Rattle.record.specs.Layout.{word_value_at}
use Rattle.record.specs.Reading.{read_at}
use Rattle.record.specs.Writing.{put_at}
use Rattle.record.specs.Rescue.{left_out_end, parts_from, parts, between, copy_of, offsets_of, numbers_of, Lent, lent_of, rescue_answer, rescued, Rescues}
use Rattle.record.specs.Inner.{Follow, Ends, file_ends, refused, Ran, refusal_at_end, HasRoom}
use Rattle.record.specs.declared.types.Read.{Read}
use Rattle.record.specs.declared.types.Read.TheVariants as read
use Rattle.record.proofs.Between.{between_none, between_join, length-between}
use Rattle.record.proofs.Ended.{Refused, at_file_end, at_refusal}
use Rattle.record.proofs.Onward.{NoRecord, never}
use Rattle.record.proofs.Parts.{leaves, parts_record, parts_refused, parts_end}
use Rattle.record.proofs.Puts.{then}
use Rattle.record.proofs.Stands.{stands}

-- records that follow each other: the walk from the first gives their bytes, and what it gives from where they end
pub record Carried (s : List ℕ) (from end : ℕ) : Type 0 where
  pub on : from ≤ end
  pub inside : end ≤ length s
  pub copies : copy_of s (parts_from s from) ≡ between s from end ++ copy_of s (parts_from s end)
  pub offsets : offsets_of (parts_from s from) ≡ offsets_of (parts_from s end)
  pub numbers : numbers_of (parts_from s from) ≡ numbers_of (parts_from s end)

module _ (s : List ℕ) (from : ℕ) where
  pub carried : from ≤ length s → (end : ℕ) → Follow s from end → Carried s from end
  carried h _ Follow.none = record {
    on = omega arith;
    inside = h;
    copies = sym (ap (λ (b : List ℕ). b ++ copy_of s (parts_from s from)) (between_none s from));
    offsets = refl;
    numbers = refl;
  }
  carried h _ (Follow.more at r f e) =
      let k = carried h at f in
      let p = stands s at r e in
      let next = parts_record s at r e in
      let rest = copy_of s (parts_from s r.next) in
      let mine : copy_of s (parts_from s at) ≡ between s at r.next ++ rest =
      ap (copy_of s) next ∙ ap (λ (o : ℕ). between s o r.next ++ rest) p.here in
      record {
        on = omega (arith, k.on, p.on);
        inside = p.inside;
        copies =
            k.copies ∙ ap (λ (b : List ℕ). between s from at ++ b) mine
            ∙ sym (append_assoc (between s from at) (between s at r.next) rest)
            ∙ ap (λ (b : List ℕ). b ++ rest) (between_join s from at k.on r.next (omega (arith, p.on)));
        offsets = k.offsets ∙ ap offsets_of next;
        numbers = k.numbers ∙ ap numbers_of next;
      }

  -- what is no record ends them
  pub ran : (end : ℕ) (q : Read) → Follow s from end → q ≡ read_at s end → NoRecord q → Ran s from end (refusal_at_end q)
  ran end (read.Record r) f e t = absurd (never r t)
  ran end read.End f e t = record { follow = f; ends = file_ends e }
  ran end (read.Refused q o) f e t = record { follow = f; ends = refused q o e }

module _ (s : List ℕ) (at : ℕ) where
  -- with nothing refused no byte is left, else something is left out
  pub file_ends_lem : Ends s at None → length s ≤ at
  file_ends_lem (file_ends e) = at_file_end s at e

  pub record Left (n : ℕ) : Type 0 where
    pub here : Refused s at n
    pub copies : copy_of s (parts_from s at) ≡ copy_of s (parts_from s (left_out_end s at n))
    pub offsets : offsets_of (parts_from s at) ≡ at ∷ offsets_of (parts_from s (left_out_end s at n))
    pub numbers : numbers_of (parts_from s at) ≡ n ∷ numbers_of (parts_from s (left_out_end s at n))

  pub left_out : (q : Refusal) → Ends s at (Some q) → Left (number q)
  left_out _ (refused q o e) =
      let p = parts_refused s at q o e in
      record { here = at_refusal s at q o e; copies = ap (copy_of s) p; offsets = ap offsets_of p; numbers = ap numbers_of p }

  -- but for a length that counts too much, all that it counts is there
  pub counted_left : (q : Refusal) → Ends s at (Some q) → (q ≡ Short → ⊥) → at + 2 + word_value_at s at ≤ length s
  counted_left q e n = (left_out q e).here.whole (λ m. n (number_one q Short m))

-- A lent list into which the first of all its values were put, so many, and those that are left.
pub record Put (all lent now rest : List ℕ) (count : ℕ) : Type 0 where
  pub front : List ℕ
  pub whole : front ++ rest ≡ all
  pub is : now ≡ sets lent 0 front
  pub counts : count ≡ length front

pub none_put : (all lent : List ℕ) → Put all lent lent all 0
none_put all lent = record { front = []; whole = refl; is = refl; counts = refl }

module _ {all lent now rest : List ℕ} {count : ℕ} (p : Put all lent now rest count) where
  pub put_length : length now ≡ length lent
  put_length = ap length p.is ∙ length-sets lent 0 p.front

  pub put_more : (part after t : List ℕ) (m : ℕ) → rest ≡ part ++ after → t ≡ sets now count part → m ≡ count + length part
      → Put all lent t after m
  put_more part after t m e f g =
      let zero : 0 + length p.front ≡ count = omega (arith, p.counts) in
      record {
        front = p.front ++ part;
        whole = append_assoc p.front part after ∙ ap (λ (r : List ℕ). p.front ++ r) (sym e) ∙ p.whole;
        is = then lent p.front part 0 p.is (f ∙ ap (λ (n : ℕ). sets now n part) (sym zero));
        counts = g ∙ omega (arith, p.counts, length-append p.front part);
      }

  pub put_all : rest ≡ [] → count ≤ length lent → (now ≡ put_at 0 all lent) × (count ≡ length all)
  put_all e h =
      let is_all : p.front ≡ all = sym (append-nil p.front) ∙ ap (λ (r : List ℕ). p.front ++ r) (sym e) ∙ p.whole in
      let room : 0 + length p.front ≤ length lent = omega (arith, p.counts) in
      (p.is ∙ sets-eq p.front lent 0 room ∙ ap (λ (f : List ℕ). put_at 0 f lent) is_all, p.counts ∙ ap length is_all)

pub record Saving (s : List ℕ) (l t : Lent) (at copied listed : ℕ) : Type 0 where
  pub copy : Put (copy_of s (parts s)) l.copy t.copy (copy_of s (parts_from s at)) copied
  pub offsets : Put (offsets_of (parts s)) l.offsets t.offsets (offsets_of (parts_from s at)) listed
  pub numbers : Put (numbers_of (parts s)) l.numbers t.numbers (numbers_of (parts_from s at)) listed
  pub few : copied ≤ at
  pub lines : listed ≤ at
  pub inside : at ≤ length s

pub begins : (s : List ℕ) (l : Lent) → Saving s l l 0 0 0
unfolding parts
begins s l = record {
  copy = none_put (copy_of s (parts s)) l.copy;
  offsets = none_put (offsets_of (parts s)) l.offsets;
  numbers = none_put (numbers_of (parts s)) l.numbers;
  few = omega arith;
  lines = omega arith;
  inside = omega arith;
}

-- bytes of the file copied over as many from a place on are put there
pub put_between : (s file : List ℕ) (at to copied : ℕ) (m : List ℕ) → at ≤ to → to ≤ length file → copied + (to - at) ≤ length s → m ≡ between file at to
    → take copied s ++ (m ++ drop (copied + (to - at) - copied) (drop copied s)) ≡ sets s copied (between file at to)
put_between s file at to copied m h g f e =
    let n = length-between file at to h g in
    subst (λ (k : ℕ). take copied s ++ (m ++ drop (copied + k - copied) (drop copied s)) ≡ sets s copied (between file at to)) n
    (put_part s (between file at to) m copied (omega (arith, n, f)) e)

-- a turn: the records that follow each other are copied ..
pub kept : (s : List ℕ) (l t : Lent) (at copied listed end : ℕ) (copy : List ℕ) → Saving s l t at copied listed → Follow s at end
    → copy ≡ sets t.copy copied (between s at end) → Saving s l (lent_of copy t.offsets t.numbers) end (copied + (end - at)) listed
kept s l t at copied listed end copy h f e =
    let k = carried s at h.inside end f in
    let n = length-between s at end k.on k.inside in
    record {
      copy = put_more h.copy (between s at end) _ copy _ k.copies e (omega (arith, n));
      offsets = subst (λ (rest : List ℕ). Put (offsets_of (parts s)) l.offsets t.offsets rest listed) k.offsets h.offsets;
      numbers = subst (λ (rest : List ℕ). Put (numbers_of (parts s)) l.numbers t.numbers rest listed) k.numbers h.numbers;
      few = omega (arith, h.few, k.on);
      lines = omega (arith, h.lines, k.on);
      inside = k.inside;
    }

-- .. and what is refused where they end is listed
pub told : (s : List ℕ) (l t : Lent) (at copied listed : ℕ) (q : Refusal) (n next : ℕ) → Saving s l t at copied listed → Ends s at (Some q)
    → n ≡ number q → next ≡ left_out_end s at (number q)
    → Saving s l (lent_of t.copy (set t.offsets listed at) (set t.numbers listed n)) next copied (listed + 1)
told s l t at copied listed q n next h e is to =
    let k = left_out s at q e in
    let m = leaves s at (number q) k.here in
    let after = λ (n : ℕ). lent_of t.copy (set t.offsets listed at) (set t.numbers listed n) in
    subst (λ (n : ℕ). Saving s l (after n) next copied (listed + 1)) (sym is)
    (subst (λ (next : ℕ). Saving s l (after (number q)) next copied (listed + 1)) (sym to)
    (record {
      copy = subst (λ (rest : List ℕ). Put (copy_of s (parts s)) l.copy t.copy rest copied) k.copies h.copy;
      offsets = put_more h.offsets (at ∷ []) _ _ _ k.offsets refl refl;
      numbers = put_more h.numbers (number q ∷ []) _ _ _ k.numbers refl refl;
      few = omega (arith, h.few, m.on);
      lines = omega (arith, h.lines, m.on);
      inside = m.inside;
    }))

module _ (s : List ℕ) (l : Lent) where
  pub no_bytes : length l.copy < length s → Rescues s l (refuse Full) l
  unfolding rescue_answer
  no_bytes h =
      let a : rescue_answer s l ≡ refuse Full = simp (lt-leb _ _ h) in
      record { tells = sym a; leaves = simp a }

  pub few_offsets : length s ≤ length l.copy → length l.offsets < length s → Rescues s l (refuse Room) l
  unfolding rescue_answer
  few_offsets h g =
      let a : rescue_answer s l ≡ refuse Room = simp (le-leb _ _ h, lt-leb _ _ g) in
      record { tells = sym a; leaves = simp a }

  pub few_numbers : length s ≤ length l.copy → length s ≤ length l.offsets → length l.numbers < length s → Rescues s l (refuse Room) l
  unfolding rescue_answer
  few_numbers h g f =
      let a : rescue_answer s l ≡ refuse Room = simp (le-leb _ _ h, le-leb _ _ g, lt-leb _ _ f) in
      record { tells = sym a; leaves = simp a }

  -- at the end of the walk
  pub saved : (t : Lent) (at copied listed : ℕ) → HasRoom s l → Saving s l t at copied listed → length s ≤ at
      → Rescues s l (done (pos copied ∷ pos listed ∷ [])) t
  unfolding rescue_answer rescued
  saved t at copied listed r h e =
      let over = parts_end s at e in
      let c = put_all h.copy (ap (copy_of s) over) (omega (arith, h.few, h.inside, r.copy)) in
      let o = put_all h.offsets (ap offsets_of over) (omega (arith, h.lines, h.inside, r.offsets)) in
      let n = put_all h.numbers (ap numbers_of over) (omega (arith, h.lines, h.inside, r.numbers)) in
      let a : rescue_answer s l ≡ done (pos (length (copy_of s (parts s))) ∷ pos (length (offsets_of (parts s))) ∷ []) =
      simp (le-leb _ _ r.copy, le-leb _ _ r.offsets, le-leb _ _ r.numbers) in
      let left : t ≡ rescued s l = λ i. record { copy = c.0 i; offsets = o.0 i; numbers = n.0 i } in
      record {
        tells = ap₂ (λ (a b : ℕ). done (pos a ∷ pos b ∷ [])) c.1 o.1 ∙ sym a;
        leaves = left ∙ simp a;
      }
