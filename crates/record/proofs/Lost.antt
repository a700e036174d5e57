-- Document 02, K11: what a rescue keeps, and that nothing is lost without a line saying so.
use Prim.Native.Nat.{ℕ, suc, ◌+◌, ◌-◌, ◌≤◌, ◌<◌}
use mathlib.Core.Path.{◌≡◌, refl, sym, subst, ap, ap₂, ◌∙◌}
use mathlib.Core.List.{List, [], ◌∷◌, ◌++◌, append_assoc, map}
use mathlib.Core.Bool.{Bool, true, false, ◌&&◌, true≢false}
use mathlib.Core.Logic.{◌⊎◌, inl, inr}
use native.Mathlib.Omega.{arith}
use lib.Dec.{leb}
use lib.IntN.{pos}
use lib.ListN.{length, take, drop, drop_of_length-le, length-drop, length-append}
use lib.Seq.{take_at, drop_at}
use Rattle.sheet.specs.Reply.{Answer, number, done, unless, is_done, value_of}
use Rattle.sheet.specs.declared.refusal.Refusal.{Refusal}
use Rattle.sheet.specs.declared.refusal.Refusal.TheVariants.{Room, Full}
use Rattle.laws.proofs.Products.{lt_or_ge}
use Rattle.sheet.proofs.Figures.{Sound}
use Rattle.sheet.proofs.Unique.{number_not_0, one_value}
use Rattle.record.specs.Reading.{read_at}
use Rattle.record.specs.File.{holds, also, read_from, read_all}
use Rattle.record.specs.Writing.{record_bytes, record_size, put_at}
use Rattle.record.specs.Again.{Bytes, item_of, record_at, records_from}
use Rattle.record.specs.Rescue.{Part, sound, left_out, left_out_end, parts_from, parts, between, sound_ones, copy_of, offsets_of, numbers_of, Lent, rescue_answer, rescued, Rescues}
use Rattle.record.specs.Lost.{Alike, Accepted, Among, Accounted, NothingLost}
use Rattle.record.specs.declared.types.Record.{Record}
use Rattle.record.specs.declared.types.Read.TheVariants as read
use Rattle.record.proofs.Again.{items_read}
use Rattle.record.proofs.Between.{between_drop}
use Rattle.record.proofs.Onward.{from_record, from_end, from_refusal}
use Rattle.record.proofs.Parts.{walk_has}
use Rattle.record.proofs.Records.{record_size_lem}
use Rattle.record.proofs.Same.{all_bytes, AllSound, never_holds, from_holds, record_again}
use Rattle.record.proofs.Stands.{stands}
use Rattle.record.proofs.Frames.{at_end}

module _ (s : List ℕ) where
  -- a sound file
  abbrev Whole : ℕ → List Part → Type 0
  Whole at ps = (rs : List Record) → read_from s at ≡ holds rs → (copy_of s ps ≡ drop at s) × (offsets_of ps ≡ []) × (numbers_of ps ≡ [])

  whole_from : (at : ℕ) → Whole at (parts_from s at)
  whole_from =
      walk_has s Whole (λ at h rs e. (sym (drop_of_length-le s h), refl, refl))
      (λ at r ps e rest rs f.
      let p = stands s at r e in
      let o = from_holds r (read_from s r.next) rs (sym (from_record s at r e) ∙ f) in
      let w = rest o.rest o.after in
      let joined = between_drop s r.offset r.next (omega (arith, p.here, p.on)) in
      (ap (λ (b : List ℕ). between s r.offset r.next ++ b) w.0 ∙ joined ∙ ap (λ (n : ℕ). drop n s) p.here, w.1, w.2))
      (λ at q o ps e rest rs f. absurd (never_holds q o rs (sym (from_refusal s at q o e) ∙ f)))

  pub whole : (rs : List Record) → read_all s ≡ holds rs → (copy_of s (parts s) ≡ s) × (offsets_of (parts s) ≡ []) × (numbers_of (parts s) ≡ [])
  unfolding parts read_all
  whole rs e = whole_from 0 rs e

  -- an empty list
  abbrev OfSound : ℕ → List Part → Type 0
  OfSound at ps = offsets_of ps ≡ [] → read_from s at ≡ holds (sound_ones ps)

  sound_from : (at : ℕ) → OfSound at (parts_from s at)
  sound_from =
      walk_has s OfSound (λ at h e. from_end s at (at_end s at h))
      (λ at r ps e rest f. from_record s at r e ∙ ap (also r) (rest f))
      (λ at q o ps e rest f. absurd (omega (arith, ap length f)))

  -- every byte
  before_sound : (r : Record) (i : ℕ) (ps : List Part) → Accounted s i ps → Accounted s i (sound r ∷ ps)
  before_sound r i ps (Accounted.copied q m a b) = Accounted.copied q (Among.later r (sound_ones ps) m) a b
  before_sound r i ps (Accounted.listed k h a b) = Accounted.listed k h a b

  before_left : (q : Refusal) (from to i : ℕ) (ps : List Part) → Accounted s i ps → Accounted s i (left_out q from to ∷ ps)
  before_left q from to i ps (Accounted.copied r m a b) = Accounted.copied r m a b
  before_left q from to i ps (Accounted.listed k h a b) = Accounted.listed (suc k) (omega arith) a b

  abbrev AllAccounted : ℕ → List Part → Type 0
  AllAccounted at ps = (i : ℕ) → at ≤ i → i < length s → Accounted s i ps

  accounted_from : (at : ℕ) → AllAccounted at (parts_from s at)
  accounted_from =
      walk_has s AllAccounted (λ at h i a b. absurd (omega arith))
      (λ at r ps e rest i a b. in_sound at r ps e rest i a b (lt_or_ge i r.next))
      (λ at q o ps e rest i a b. in_left at q ps rest i a b (lt_or_ge i (left_out_end s at (number q))))
    where
      -- the byte is in the part, or from where it ends on
      in_sound : (at : ℕ) (r : Record) (ps : List Part) → read.Record r ≡ read_at s at → AllAccounted r.next ps
          → (i : ℕ) → at ≤ i → i < length s → (i < r.next) ⊎ (r.next ≤ i) → Accounted s i (sound r ∷ ps)
      in_sound at r ps e rest i a b (inl c) =
          Accounted.copied r (Among.first (sound_ones ps)) (omega (arith, (stands s at r e).here)) c
      in_sound at r ps e rest i a b (inr c) = before_sound r i ps (rest i c b)

      in_left : (at : ℕ) (q : Refusal) (ps : List Part) → AllAccounted (left_out_end s at (number q)) ps → (i : ℕ) → at ≤ i → i < length s
          → (i < left_out_end s at (number q)) ⊎ (left_out_end s at (number q) ≤ i) → Accounted s i (left_out q at (left_out_end s at (number q)) ∷ ps)
      in_left at q ps rest i a b (inl c) = Accounted.listed 0 (omega arith) a c
      in_left at q ps rest i a b (inr c) = before_left q at _ i ps (rest i c b)

  module _ (bytes : Bytes s) where
    -- a record that reads well has the bytes of its ink and figure
    record Own (r : Record) : Type 0 where
      ink : r.ink < 256
      limits : Sound r.figure
      has : between s r.offset r.next ≡ record_bytes r.ink r.figure

    own : (at : ℕ) (r : Record) → read.Record r ≡ read_at s at → Own r
    own at r e =
        let p = stands s at r e in
        let a = record_again s bytes at r e in
        let b = record_bytes r.ink r.figure in
        let n : length b ≡ r.next - at =
        omega (arith, p.on, p.inside, ap length a.1, length-append b (drop r.next s), length-drop r.next s, length-drop at s) in
        record {
          ink = a.0;
          limits = p.sound;
          has =
              ap (λ (o : ℕ). between s o r.next) p.here ∙ ap (take (r.next - at)) (sym a.1)
              ∙ take_at b (drop r.next s) (r.next - at) n;
        }

    abbrev AllOwn : List Record → Type 0
    AllOwn [] = Unit {0}
    AllOwn (r ∷ rs) = Own r × AllOwn rs

    all_own : (at : ℕ) → AllOwn (sound_ones (parts_from s at))
    all_own =
        walk_has s (λ (at : ℕ) (ps : List Part). AllOwn (sound_ones ps)) (λ at h. tt)
        (λ at r ps e rest. (own at r e, rest)) (λ at q o ps e rest. rest)

    -- so what is copied is what writing them gives
    copy_bytes : (ps : List Part) → AllOwn (sound_ones ps) → copy_of s ps ≡ all_bytes (map item_of (sound_ones ps))
    copy_bytes [] l = refl
    copy_bytes (sound r ∷ ps) l = ap₂ (λ (b c : List ℕ). b ++ c) l.0.has (copy_bytes ps l.1)
    copy_bytes (left_out q from to ∷ ps) l = copy_bytes ps l

    all_sound : (rs : List Record) → AllOwn rs → AllSound (map item_of rs)
    all_sound [] l = tt
    all_sound (r ∷ rs) l = (l.0.ink, (l.0.limits, all_sound rs l.1))

    alike : (t q : List ℕ) (n : ℕ) (rs : List Record) → t ≡ q ++ all_bytes (map item_of rs) → length q ≡ n → AllOwn rs
        → Alike s t rs (records_from n (map item_of rs))
    unfolding records_from
    alike t q n [] e h l = Alike.none
    alike t q n (r ∷ rs) e h l =
        let b = record_bytes r.ink r.figure in
        let rest = all_bytes (map item_of rs) in
        let size = record_size_lem r.ink r.figure in
        let next = n + record_size r.figure in
        let here : between t n next ≡ b =
        ap (λ (t : List ℕ). between t n next) e ∙ ap (take (next - n)) (drop_at q (b ++ rest) n h)
        ∙ take_at b rest (next - n) (omega (arith, size)) in
        Alike.next r (record_at n (item_of r)) rs (records_from next (map item_of rs)) refl (l.0.has ∙ sym here)
        (alike t (q ++ b) next rs (e ∙ sym (append_assoc q b rest)) (omega (arith, length-append q b, size)) l.1)

    accepted : Accepted s (copy_of s (parts s)) (parts s)
    unfolding parts read_all
    accepted =
        let rs = sound_ones (parts_from s 0) in
        let l = all_own 0 in
        let copy = copy_bytes (parts_from s 0) l in
        record {
          records = records_from 0 (map item_of rs);
          reads = ap (λ (t : List ℕ). read_from t 0) copy ∙ items_read [] (map item_of rs) (all_sound rs l);
          alike = alike _ [] 0 rs copy refl l;
        }

-- an answer that is done has passed its test
passed : (t : Bool) (q : Refusal) (a : Answer) → is_done (unless t q a) ≡ true → unless t q a ≡ a
passed true q a e = refl
passed false q a e = absurd (true≢false (sym e ∙ number_not_0 q))

-- what a rescue that is done tells and leaves
record Saved (s : List ℕ) (l : Lent) (r : Answer) (t : Lent) : Type 0 where
  tells : r ≡ done (pos (length (copy_of s (parts s))) ∷ pos (length (offsets_of (parts s))) ∷ [])
  copy : t.copy ≡ put_at 0 (copy_of s (parts s)) l.copy
  offsets : t.offsets ≡ put_at 0 (offsets_of (parts s)) l.offsets
  numbers : t.numbers ≡ put_at 0 (numbers_of (parts s)) l.numbers

saved : (s : List ℕ) (l : Lent) (r : Answer) (t : Lent) → is_done r ≡ true → Rescues s l r t → Saved s l r t
unfolding rescue_answer rescued
saved s l r t e h =
    let d : is_done (rescue_answer s l) ≡ true = ap is_done (sym h.tells) ∙ e in
    let room = passed (leb (length s) (length l.copy)) Full _ d in
    let places = leb (length s) (length l.offsets) && leb (length s) (length l.numbers) in
    let left : t ≡ rescued s l = h.leaves ∙ simp d in
    record {
      tells = h.tells ∙ room ∙ passed places Room _ (ap is_done (sym room) ∙ d);
      copy = ap (λ (t : Lent). t.copy) left;
      offsets = ap (λ (t : Lent). t.offsets) left;
      numbers = ap (λ (t : Lent). t.numbers) left;
    }

-- the first bytes of a done rescue are the copy
saved_copy : (s : List ℕ) (l : Lent) (n k : ℕ) (t : Lent) → Rescues s l (done (pos n ∷ pos k ∷ [])) t
    → (n ≡ length (copy_of s (parts s))) × (take n t.copy ≡ copy_of s (parts s))
saved_copy s l n k t h =
    let S = saved s l _ t refl h in
    let e : n ≡ length (copy_of s (parts s)) = ap value_of S.tells in
    (e, ap₂ take e S.copy ∙ take_at (copy_of s (parts s)) _ _ refl)

copied_twice : (s : List ℕ) → Bytes s → (lent left again after : Lent) (n k : ℕ) (r : Answer)
    → Rescues s lent (done (pos n ∷ pos k ∷ [])) left → Rescues (take n left.copy) again r after → is_done r ≡ true
    → (r ≡ done (pos n ∷ pos 0 ∷ [])) × (take n after.copy ≡ take n left.copy) × (after.offsets ≡ again.offsets) × (after.numbers ≡ again.numbers)
copied_twice s bytes lent left again after n k r h g e =
    let c = copy_of s (parts s) in
    let first = saved_copy s lent n k left h in
    let S = saved c again r after e (subst (λ (b : List ℕ). Rescues b again r after) first.1 g) in
    let w = whole c _ (accepted s bytes).reads in
    let copy : after.copy ≡ put_at 0 c again.copy = S.copy ∙ ap (λ (b : List ℕ). put_at 0 b again.copy) w.0 in (
      S.tells ∙ ap₂ (λ (a b : ℕ). done (pos a ∷ pos b ∷ [])) (ap length w.0 ∙ sym first.0) (ap length w.1),
      ap₂ take first.0 copy ∙ take_at c _ _ refl ∙ sym first.1,
      S.offsets ∙ ap (λ (b : List ℕ). put_at 0 b again.offsets) w.1,
      S.numbers ∙ ap (λ (b : List ℕ). put_at 0 b again.numbers) w.2,
    )

pub nothing_lost : NothingLost
unfolding parts read_all
nothing_lost = record {
  accepted = accepted;
  whole = whole;
  sound = λ s e. sound_from s 0 e;
  twice = copied_twice;
  accounted = λ s i h. accounted_from s 0 i (omega arith) h;
}

-- two replies of one rescue with the same room are equal, and so is what they leave
pub rescues_one : (s : List ℕ) (l : Lent) (a b : Answer) (t u : Lent) → Rescues s l a t → Rescues s l b u → (a ≡ b) × (t ≡ u)
rescues_one s l a b t u h g = (one_value a b _ h.tells g.tells, one_value t u _ h.leaves g.leaves)
