-- Document 02, K1: reading gives back what was written, and writing what was read.
use Prim.Native.Nat.{ℕ, ◌+◌, ◌-◌, ◌≤◌, ◌<◌}
use mathlib.Core.Path.{◌≡◌, refl, sym, subst, ap, ap₂, ◌∙◌}
use mathlib.Core.List.{List, [], ◌∷◌, ◌++◌, append_assoc, map}
use mathlib.Core.Bool.{Bool, true, false, cond, true≢false}
use native.Mathlib.Omega.{arith}
use borrow.Author.Tests.{leb-true, le-leb}
use lib.Dec.{leb}
use lib.IntN.{pos}
use lib.ListN.{length, take, drop, length-append}
use lib.Seq.{sets, sets-eq, length-sets, length-take-le, take-append_seam}
use Rattle.sheet.specs.Reply.{Answer, done, refuse, unless, is_done, value_of, settled}
use Rattle.sheet.specs.declared.Figure.{Figure}
use Rattle.sheet.specs.declared.refusal.Refusal.{Refusal}
use Rattle.sheet.specs.declared.refusal.Refusal.TheVariants.{Full}
use Rattle.sheet.proofs.Figures.{Sound, figure_cases, figure_passes}
use Rattle.sheet.proofs.Unique.{number_not_0}
use Rattle.record.specs.Reading.{read_at}
use Rattle.record.specs.File.{holds, also, read_from, read_all}
use Rattle.record.specs.Writing.{record_bytes, record_size, write_answer, put_at, Writes}
use Rattle.record.specs.Again.{Bytes, Item, item_of, InTurn, record_at, records_from, ReadsAndWrites}
use Rattle.record.specs.declared.types.Record.{Record}
use Rattle.record.specs.declared.types.Read.TheVariants as read
use Rattle.record.proofs.Frames.{at_end}
use Rattle.record.proofs.Onward.{from_record, from_end}
use Rattle.record.proofs.Puts.{then}
use Rattle.record.proofs.Records.{record_size_lem}
use Rattle.record.proofs.Rowed.{rowed, record_read}
use Rattle.record.proofs.Same.{all_bytes, AllSound, file_again}

-- What comes of writing: the record put at the count, where the figure is within its limits and there is room; or nothing.
data Outcome (n ink : ℕ) (f : Figure) (s : List ℕ) : (r : Answer) (t : List ℕ) → Type 0 where
  wrote : Sound f → n + record_size f ≤ length s → Outcome n ink f s (done (pos (n + record_size f) ∷ [])) (sets s n (record_bytes ink f))
  left : (q : Refusal) → Outcome n ink f s (refuse q) s

module _ (n i : ℕ) (f : Figure) (s : List ℕ) where
  fitting : n + record_size f ≤ length s → put_at n (record_bytes i f) s ≡ sets s n (record_bytes i f)
  fitting h = sym (sets-eq (record_bytes i f) s n (rw (record_size_lem i f) h))

  abbrev After : Answer → Type 0
  After a = Outcome n i f s a (settled a (put_at n (record_bytes i f) s) s)

  refused : (q : Refusal) → After (refuse q)
  refused q = subst (λ (t : Bool). Outcome n i f s (refuse q) (cond t (put_at n (record_bytes i f) s) s)) (sym (number_not_0 q)) (left q)

  answered : After (write_answer n f (length s))
  unfolding write_answer
  answered = figure_cases After refused f _ (λ l. by l (leb (record_size f) (length s - n)) refl)
    where
      by : Sound f → (t : Bool) → leb (record_size f) (length s - n) ≡ t → After (unless t Full (done (pos (n + record_size f) ∷ [])))
      by l true e =
          let h : n + record_size f ≤ length s = omega (arith, leb-true (record_size f) (length s - n) e) in
          subst (Outcome n i f s (done (pos (n + record_size f) ∷ []))) (sym (fitting h)) (wrote l h)
      by l false e = refused Full

  outcome : (r : Answer) (t : List ℕ) → Writes n i f s r t → Outcome n i f s r t
  outcome r t w =
      let bytes = settled (write_answer n f (length s)) (put_at n (record_bytes i f) s) s in
      subst (Outcome n i f s r) (sym w.leaves) (subst (λ (a : Answer). Outcome n i f s a bytes) (sym w.tells) answered)

-- reading at the old count of what was written
put_read : (n i : ℕ) (f : Figure) (s : List ℕ) → i < 256 → Sound f → n + record_size f ≤ length s
    → read_at (sets s n (record_bytes i f)) n ≡ read.Record (record { offset = n; next = n + record_size f; ink = i; figure = f })
put_read n i f s b l h =
    let q = take n s in
    let e : length q ≡ n = length-take-le n s (omega arith) in
    let rest = drop (n + length (record_bytes i f)) s in
    let split : sets s n (record_bytes i f) ≡ q ++ (record_bytes i f ++ rest) = sym (fitting n i f s h) ∙ append_assoc q (record_bytes i f) rest in
    ap (λ (t : List ℕ). read_at t n) split
    ∙ subst (λ (n : ℕ). read_at (q ++ (record_bytes i f ++ rest)) n ≡ read.Record (record_at n (record { ink = i; figure = f }))) e
    (record_read i f (rowed i f b l) q rest)

read_back : (n i m : ℕ) (f : Figure) (s t : List ℕ) → i < 256 → Writes n i f s (done (pos m ∷ [])) t
    → read_at t n ≡ read.Record (record { offset = n; next = m; ink = i; figure = f })
read_back n i m f s t b w = by _ _ refl (outcome n i f s _ t w)
  where
    by : (r : Answer) (t : List ℕ) → r ≡ done (pos m ∷ []) → Outcome n i f s r t
        → read_at t n ≡ read.Record (record { offset = n; next = m; ink = i; figure = f })
    by _ _ e (wrote l h) = put_read n i f s b l h ∙ ap (λ (k : ℕ). read.Record (record { offset = n; next = k; ink = i; figure = f })) (ap value_of e)
    by _ _ e (left q) = absurd (true≢false (sym (ap is_done e) ∙ number_not_0 q))

-- a file of records that follow each other, after other bytes
pub items_read : (q : List ℕ) (ws : List Item) → AllSound ws → read_from (q ++ all_bytes ws) (length q) ≡ holds (records_from (length q) ws)
unfolding records_from
items_read q [] l = from_end (q ++ []) (length q) (at_end (q ++ []) (length q) (omega (arith, length-append q [])))
items_read q (w ∷ ws) l =
    let b = record_bytes w.ink w.figure in
    let r = record_at (length q) w in
    let here = record_read w.ink w.figure (rowed w.ink w.figure l.0 l.1.0) q (all_bytes ws) in
    let n : length (q ++ b) ≡ length q + record_size w.figure = length-append q b ∙ ap (λ (k : ℕ). length q + k) (record_size_lem w.ink w.figure) in
    let rest = items_read (q ++ b) ws l.1.1 in
    from_record (q ++ (b ++ all_bytes ws)) (length q) r (sym here)
    ∙ ap (also r) (ap₂ read_from (sym (append_assoc q b (all_bytes ws))) (sym n) ∙ rest ∙ ap (λ (k : ℕ). holds (records_from k ws)) n)

-- what was asked for in turn: the items that were done stand one after another from the old count on
record Stood (n : ℕ) (s : List ℕ) (ks : List Item) (m : ℕ) (t : List ℕ) : Type 0 where
  after : m ≡ n + length (all_bytes ks)
  inside : m ≤ length s
  put : t ≡ sets s n (all_bytes ks)
  sound : AllSound ks

one_more : (w : Item) (ks : List Item) (n m : ℕ) (s u : List ℕ) → w.ink < 256 → Sound w.figure
    → Stood (n + record_size w.figure) (sets s n (record_bytes w.ink w.figure)) ks m u → Stood n s (w ∷ ks) m u
one_more w ks n m s u b l S =
    let e = record_size_lem w.ink w.figure in
    let bytes = record_bytes w.ink w.figure in
    let k : n + record_size w.figure ≡ n + length bytes = ap (λ (k : ℕ). n + k) (sym e) in
    record {
      after = S.after ∙ omega (arith, length-append bytes (all_bytes ks));
      inside = subst (λ (k : ℕ). m ≤ k) (length-sets s n bytes) S.inside;
      put = then s bytes (all_bytes ks) n refl (S.put ∙ ap (λ (j : ℕ). sets (sets s n bytes) j (all_bytes ks)) k);
      sound = (b, (l, S.sound));
    }

module _ (w : Item) (ws ks : List Item) (n m : ℕ) (s u : List ℕ) where
  -- an answer that is no 0 leaves count and list as they were
  unkept : (t : Bool) (v : ℕ) → t ≡ false → n ≤ length s → (cond t v n ≤ length s → Stood (cond t v n) s ks m u) → Stood n s (cond t (w ∷ ks) ks) m u
  unkept true v e h f = absurd (true≢false e)
  unkept false v e h f = f h

  next_stood : w.ink < 256 → n ≤ length s → (r : Answer) (t : List ℕ) → Outcome n w.ink w.figure s r t
      → (settled r (value_of r) n ≤ length t → Stood (settled r (value_of r) n) t ks m u) → Stood n s (settled r (w ∷ ks) ks) m u
  next_stood b h _ _ (wrote l g) f =
      let e = sym (length-sets s n (record_bytes w.ink w.figure)) in
      one_more w ks n m s u b l (f (subst (λ (k : ℕ). n + record_size w.figure ≤ k) e g))
  next_stood b h _ _ (left q) f = unkept (is_done (refuse q)) (value_of (refuse q)) (number_not_0 q) h f

  -- one that is within its limits, and has room, is done
  is_done_lem : (r : Answer) (t : List ℕ) → Sound w.figure → n + record_size w.figure ≤ length s → Writes n w.ink w.figure s r t → is_done r ≡ true
  unfolding write_answer
  is_done_lem r t l h o =
      ap is_done (o.tells ∙ figure_passes w.figure _ l) ∙ simp (le-leb (record_size w.figure) (length s - n) (omega arith))

  next_kept : (r : Answer) (t : List ℕ) → is_done r ≡ true → n + length (all_bytes (w ∷ ws)) ≤ length s → Outcome n w.ink w.figure s r t
      → (settled r (value_of r) n + length (all_bytes ws) ≤ length t → ks ≡ ws) → settled r (w ∷ ks) ks ≡ w ∷ ws
  next_kept _ _ e h (wrote l g) f =
      let b = record_bytes w.ink w.figure in
      ap (λ (k : List Item). w ∷ k) (f (omega (arith, length-sets s n b, length-append b (all_bytes ws), record_size_lem w.ink w.figure)))
  next_kept _ _ e h (left q) f = absurd (true≢false (sym e ∙ number_not_0 q))

stood : (asked : List Item) (n : ℕ) (s : List ℕ) (ks : List Item) (m : ℕ) (t : List ℕ) → n ≤ length s → InTurn asked n s ks m t → Stood n s ks m t
stood _ _ _ _ _ _ h (InTurn.none n s) = record { after = omega arith; inside = h; put = refl; sound = tt }
stood _ _ _ _ _ _ h (InTurn.next w ws ks n m s t u r b o rest) =
    next_stood w ws ks n m s u b h r t (outcome n w.ink w.figure s r t o) (λ g. stood ws _ t ks m u g rest)

all_kept : (asked : List Item) (n : ℕ) (s : List ℕ) (ks : List Item) (m : ℕ) (t : List ℕ) → AllSound asked → n + length (all_bytes asked) ≤ length s
    → InTurn asked n s ks m t → ks ≡ asked
all_kept _ _ _ _ _ _ l h (InTurn.none n s) = refl
all_kept _ _ _ _ _ _ l h (InTurn.next w ws ks n m s t u r b o rest) =
    let e = record_size_lem w.ink w.figure in
    let room : n + record_size w.figure ≤ length s = omega (arith, length-append (record_bytes w.ink w.figure) (all_bytes ws)) in
    next_kept w ws ks n m s u r t (is_done_lem w ws ks n m s u r t l.1.0 room o) h (outcome n w.ink w.figure s r t o)
    (λ g. all_kept ws _ t ks m u l.1.1 g rest)

-- Whatever is asked for, with inks that are bytes, and into whatever buffer: there are such replies, so that what is said of them is said of all.
abbrev pub InksIn : List Item → Type 0
InksIn [] = Unit {0}
InksIn (w ∷ ws) = (w.ink < 256) × InksIn ws

pub record Run (asked : List Item) (n : ℕ) (s : List ℕ) : Type 0 where
  pub kept : List Item
  pub after : ℕ
  pub bytes : List ℕ
  pub turns : InTurn asked n s kept after bytes

pub any_run : (asked : List Item) → InksIn asked → (n : ℕ) (s : List ℕ) → Run asked n s
any_run [] b n s = record { kept = []; after = n; bytes = s; turns = InTurn.none n s }
any_run (w ∷ ws) b n s =
    let r = write_answer n w.figure (length s) in
    let t = settled r (put_at n (record_bytes w.ink w.figure) s) s in
    let rest = any_run ws b.1 (settled r (value_of r) n) t in
    record {
      kept = settled r (w ∷ rest.kept) rest.kept;
      after = rest.after;
      bytes = rest.bytes;
      turns = InTurn.next w ws rest.kept n rest.after s t rest.bytes r b.0 (record { tells = refl; leaves = refl }) rest.turns;
    }

-- the file that was written, and one that is written again
written_file : (asked kept : List Item) (s t : List ℕ) (m : ℕ) → InTurn asked 0 s kept m t → read_all (take m t) ≡ holds (records_from 0 kept)
unfolding read_all
written_file asked kept s t m o =
    let S = stood asked 0 s kept m t (omega arith) o in
    let file = all_bytes kept in
    let n : m ≡ length file = S.after ∙ omega arith in
    let whole = S.put ∙ sets-eq file s 0 (omega (arith, S.after, S.inside)) in
    let first : take m t ≡ file = ap₂ take n whole ∙ take-append_seam file (drop (0 + length file) s) in
    ap (λ (b : List ℕ). read_from b 0) first ∙ items_read [] kept S.sound

written_again : (s : List ℕ) (rs : List Record) → Bytes s → read_all s ≡ holds rs → (b t : List ℕ) (kept : List Item) (m : ℕ) → length s ≤ length b
    → InTurn (map item_of rs) 0 b kept m t → (kept ≡ map item_of rs) × (m ≡ length s) × (t ≡ s ++ drop (length s) b)
written_again s rs bytes e b t kept m h o =
    let items = map item_of rs in
    let F = file_again s bytes rs e in
    let room : 0 + length (all_bytes items) ≤ length b = omega (arith, ap length F.0) in
    let k = all_kept items 0 b kept m t F.1 room o in
    let S = stood items 0 b kept m t (omega arith) o in
    let file : all_bytes kept ≡ s = ap all_bytes k ∙ F.0 in
    let z : 0 + length s ≡ length s = omega arith in
    (k, S.after ∙ ap (λ (l : List ℕ). 0 + length l) file ∙ z, S.put ∙ ap (sets b 0) file ∙ sets-eq s b 0 (omega arith) ∙ ap (λ (n : ℕ). s ++ drop n b) z)

pub reads_and_writes : ReadsAndWrites
reads_and_writes = record { back = read_back; file = written_file; again = written_again }
