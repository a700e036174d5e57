-- What writing and reading answer, and what they leave.
use Prim.Native.Nat.{ℕ, zero, suc, ◌+◌, ◌*◌, ◌-◌, ◌/◌, ◌%◌, ◌≤◌, ◌<◌}
use mathlib.Core.Path.{◌≡◌, refl, sym, ap, ◌∙◌}
use mathlib.Core.List.{List, [], ◌∷◌, ◌++◌}
use mathlib.Core.Bool.{Bool, true, false, cond, ◌&&◌, and-true}
use native.Mathlib.Omega.{arith}
use native.Mathlib.Nat.{mod-lt}
use borrow.Author.Tests.{le-leb, lt-leb}
use lib.Dec.{eqb, ltb}
use lib.IntN.{pos}
use lib.ListN.{length, get_or, drop, length-append, length-drop}
use lib.Seq.{sets, get_or-drop}
use Rattle.laws.specs.Below.{each}
use Rattle.laws.specs.Text.{written_over}
use Rattle.laws.proofs.Each.{length-each}
use Rattle.laws.proofs.Written.{write_first, write_next, write_ends}
use Rattle.sheet.specs.Sheet.{on_sheet, cell_at, held, paint}
use Rattle.sheet.specs.Reply.{Answer, done, refuse, told, test_answer, count_answer, is_done, settled}
use Rattle.sheet.specs.Drawing.{paint_all, Paints, if_sheet}
use Rattle.sheet.specs.Inner.{fits}
use Rattle.sheet.specs.declared.Shape.{Shape}
use Rattle.sheet.specs.declared.refusal.Refusal.TheVariants.{Buffer, Header, Pixels}
use Rattle.sheet.proofs.Draws.{keeps, paints}
use Rattle.sheet.proofs.Lent.{if_sheet_lem, no_sheet, told_err}
use Rattle.sheet.proofs.Unique.{number_not_0}
use Rattle.std.specs.Prelude.{Result, Err, IsErrAnd, Some, None}
use Rattle.std.proofs.lemmas.Option.{none-some}
use Rattle.sheet.specs.declared.refusal.Refusal.{Refusal}
use Rattle.sheet.proofs.Places.{by_as, by_then}
use Rattle.pbm.specs.Picture.{header_bytes, row_byte_count, raster_byte_count, raster_byte, picture_of, write_answer, Writes}
use Rattle.pbm.specs.Header.{names, rows_of}
use Rattle.pbm.specs.Reading.{bit_at, pixel, read_answer, everywhere, black, read_drawing}
use Rattle.pbm.specs.Inner.{Finds, row_bit, laid}

-- the picture's length
pub picture_long : (k : Shape) (s : List ℕ) → length (picture_of k s) ≡ length (header_bytes k.width k.height) + raster_byte_count k
unfolding picture_of
picture_long k s =
    length-append (header_bytes k.width k.height) (each (raster_byte_count k) (raster_byte k s))
    ∙ ap (λ (n : ℕ). length (header_bytes k.width k.height) + n) (length-each (raster_byte_count k) (raster_byte k s))

module _ (k : Shape) (s lent : List ℕ) where
  -- an answer that is no 0 leaves the buffer
  writes_not : (a : Answer) → is_done a ≡ false → write_answer k s (length lent) ≡ a → Writes k s lent a lent
  writes_not a n e = record { tells = sym e; leaves = simp (e, n) }

  -- where the sheet is refused, so is the picture
  pub writes_no_sheet : (reply : Result ℕ Refusal) (r : Refusal) → told test_answer (Err r) ≡ if_sheet k (length s) (done [])
      → IsErrAnd reply (λ q. q ≡ r) → Writes k s lent (told count_answer reply) lent
  unfolding write_answer
  writes_no_sheet reply r tested e =
      rw (told_err count_answer reply r e) (writes_not (refuse r) (number_not_0 r) (no_sheet k (length s) r tested _))

  module _ (sheet : fits k (length s) ≡ true) where
    pub writes_short : length lent < length (picture_of k s) → Writes k s lent (refuse Buffer) lent
    unfolding write_answer
    writes_short l = writes_not (refuse Buffer) refl (if_sheet_lem k (length s) sheet _ ∙ simp (lt-leb (length (picture_of k s)) (length lent) l))

    pub writes_done : (n : ℕ) (first after : List ℕ) (at : ℕ) → n ≡ length (picture_of k s) → n ≤ length lent → at ≡ length (header_bytes k.width k.height)
        → first ≡ sets lent 0 (header_bytes k.width k.height) → after ≡ sets first at (each (raster_byte_count k) (raster_byte k s)) → Writes k s lent (done (pos n ∷ [])) after
    unfolding write_answer picture_of
    writes_done n first after at e l g p q =
        let header = header_bytes k.width k.height in
        let rows = each (raster_byte_count k) (raster_byte k s) in
        let w = write_next lent header first at (write_first lent header first at p (g ∙ omega arith)) rows after (at + length rows) q refl in
        let a : write_answer k s (length lent) ≡ done (pos (length (header ++ rows)) ∷ []) = if_sheet_lem k (length s) sheet _ ∙ simp (le-leb (length (header ++ rows)) (length lent) (omega arith)) in
        record {
          tells = ap (λ (m : ℕ). done (pos m ∷ [])) e ∙ sym a;
          leaves = (write_ends lent (header ++ rows) after (at + length rows) w (omega (arith, length-append header rows))).1
              ∙ ap (λ (b : Answer). settled b (written_over (header ++ rows) lent) lent) (sym a);
        }

-- where the rows are found, the file names a picture of this size, and where not, not
pub not_named : {p : List ℕ} {width height : ℕ} → Finds p width height None → names width height p ≡ false
not_named {p} {width} {height} h = by (names width height p) refl
  where
    by : (t : Bool) → names width height p ≡ t → t ≡ false
    by true f = absurd (h.found f)
    by false f = refl

module _ {p : List ℕ} {width height at : ℕ} (h : Finds p width height (Some at)) where
  pub is_named : names width height p ≡ true
  is_named = by (names width height p) refl
    where
      by : (t : Bool) → names width height p ≡ t → t ≡ true
      by true f = refl
      by false f = absurd (none-some _ (sym (h.not_found f)))

  pub rows_long : (at ≤ length p) × (length (rows_of p) ≡ length p - at)
  rows_long = let f = h.found is_named in (f.0, ap length f.1 ∙ length-drop at p)

pub reads_no_sheet : (k : Shape) (p s : List ℕ) (reply : Result (Unit {0}) Refusal) (r : Refusal) → told test_answer (Err r) ≡ if_sheet k (length s) (done [])
    → IsErrAnd reply (λ q. q ≡ r) → Paints (read_drawing k p) s (told test_answer reply) s
unfolding read_answer
reads_no_sheet k p s reply r tested e =
    rw (told_err test_answer reply r e) (keeps (read_drawing k p) s (refuse r) (number_not_0 r) (no_sheet k (length s) r tested _))

module _ (k : Shape) (p s : List ℕ) (sheet : fits k (length s) ≡ true) where
  pub reads_other : names k.width k.height p ≡ false → Paints (read_drawing k p) s (refuse Header) s
  unfolding read_answer
  reads_other e = keeps (read_drawing k p) s (refuse Header) refl (if_sheet_lem k (length s) sheet _ ∙ simp e)

  module _ (named : names k.width k.height p ≡ true) where
    pub reads_short : length (rows_of p) < raster_byte_count k → Paints (read_drawing k p) s (refuse Pixels) s
    unfolding read_answer
    reads_short l = keeps (read_drawing k p) s (refuse Pixels) refl (if_sheet_lem k (length s) sheet _ ∙ simp (named, lt-leb (raster_byte_count k) (length (rows_of p)) l))

    pub reads_done : (t : List ℕ) → raster_byte_count k ≤ length (rows_of p) → t ≡ paint_all k (read_drawing k p).figures s → Paints (read_drawing k p) s (done []) t
    unfolding read_answer
    reads_done t l e = paints (read_drawing k p) s (done []) t refl (if_sheet_lem k (length s) sheet _ ∙ simp (named, le-leb (raster_byte_count k) (length (rows_of p)) l)) e

-- a bit is 0 or 1, so that 1 over 0 where it is 1 is the bit
pub bit_ink : (b : ℕ) → b < 2 → cond (eqb b 1) 1 0 ≡ b
bit_ink zero l = refl
bit_ink (suc zero) l = refl
bit_ink (suc (suc b)) l = absurd (omega arith)

on_at : (k : Shape) (n : ℕ) → on_sheet k (cell_at k n) ≡ (ltb (n % k.pitch) k.width && ltb (n / k.pitch) k.height)
unfolding on_sheet cell_at
on_at k n = simp (le-leb 0 (n % k.pitch) (omega arith), le-leb 0 (n / k.pitch) (omega arith), and-true)

-- the rows laid over a sheet are the picture's pixels painted
module _ (k : Shape) (p rows : List ℕ) (at : ℕ) (e : rows ≡ drop at p) where
  abbrev bit : ℕ → ℕ
  bit n = row_bit p (at + n / k.pitch * row_byte_count k.width) (n % k.pitch)

  black_at : (n : ℕ) → black k.width rows (cell_at k n) ≡ eqb (bit n) 1
  unfolding black pixel row_bit cell_at
  black_at n =
      let m = n / k.pitch * row_byte_count k.width + n % k.pitch / 8 in
      let g : at + m ≡ at + n / k.pitch * row_byte_count k.width + n % k.pitch / 8 = omega arith in
      ap (λ (b : ℕ). eqb (bit_at b (n % k.pitch % 8)) 1) (ap (λ (r : List ℕ). get_or r m 0) e ∙ get_or-drop at p m 0 ∙ ap (λ (j : ℕ). get_or p j 0) g)

  bit_low : (n : ℕ) → bit n < 2
  unfolding row_bit
  bit_low n = mod-lt _ (omega arith)

  one : (n v : ℕ) (t : Bool) → on_sheet k (cell_at k n) ≡ t
      → cond t (bit n) v ≡ cond (on_sheet k (cell_at k n) && black k.width rows (cell_at k n)) 1 (cond (on_sheet k (cell_at k n) && true) 0 v)
  one n v true f = rw (f, black_at n) (sym (bit_ink (bit n) (bit_low n)))
  one n v false f = rw f refl

  pub laid_paints : (s : List ℕ) → laid k p at k.height s ≡ paint k 1 (black k.width rows) (paint k 0 everywhere s)
  unfolding laid paint held
  laid_paints s =
      by_as _ _ s (λ n v l. one n v (ltb (n % k.pitch) k.width && ltb (n / k.pitch) k.height) (on_at k n))
      ∙ sym (by_then (λ (n v : ℕ). cond (held k everywhere n) 0 v) (λ (n v : ℕ). cond (held k (black k.width rows) n) 1 v) s)
