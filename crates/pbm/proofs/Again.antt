-- Pictures there and back: what is read of what was written, and what is written of what was read.
use Prim.Native.Nat.{ℕ, zero, suc, ◌+◌, ◌*◌, ◌-◌, ◌/◌, ◌%◌, ◌^◌, ◌≤◌, ◌<◌}
use mathlib.Core.Path.{◌≡◌, refl, sym, subst, ap, ap₂, ◌∙◌}
use mathlib.Core.List.{List, [], ◌∷◌, ◌++◌, append_assoc}
use mathlib.Core.Bool.{Bool, true, false, cond, not, true≢false}
use native.Mathlib.Omega.{arith}
use native.Mathlib.Nat.{div-add-mod', mod-lt, mul-le-mul_right}
use native.Mathlib.Decide.{dec_lt, ℕ_discrete}
use borrow.Author.Tests.{eqb-true, eq-eqb, ne_eqb, ltb-true, ltb-false, lt-ltb, le-ltb, le-leb}
use lib.Arith.{digits_div, digits_mod}
use lib.Dec.{eqb, leb, ltb}
use lib.ListN.{length, get_or, length-append}
use lib.Seq.{get_or-append-add}
use Rattle.laws.specs.Below.{any, each}
use Rattle.laws.specs.Text.{decimal_in, decimal}
use Rattle.laws.proofs.Each.{length-each, get_or_before, get_or-each, each_as}
use Rattle.laws.proofs.Floor.{div_is}
use Rattle.sheet.specs.Sheet.{place, cell_of, paint}
use Rattle.sheet.specs.Reply.{Answer, done, is_done, unless}
use Rattle.sheet.specs.Drawing.{if_sheet, Paints}
use Rattle.sheet.specs.Inner.{fits}
use Rattle.sheet.specs.declared.Shape.{Shape}
use Rattle.sheet.specs.declared.refusal.Refusal.TheVariants.{Header, Pixels}
use Rattle.sheet.proofs.Cells.{on_sheet_lem}
use Rattle.sheet.proofs.Draws.{drawn}
use Rattle.sheet.proofs.Lent.{if_sheet_lem, done_sheet}
use Rattle.sheet.proofs.Limits.{fits_sheet}
use Rattle.sheet.proofs.Paint.{paint_length, paint_cell}
use Rattle.sheet.proofs.Pitch.{cell_below}
use Rattle.pbm.specs.Picture.{header_bytes, row_byte_count, raster_byte_count, packed, bit_of, sheet_bit, raster_byte, picture_of}
use Rattle.pbm.specs.Page.{digit, Some, Begins, value_after, Headed}
use Rattle.pbm.specs.Header.{names, rows_of}
use Rattle.pbm.specs.Reading.{bit_at, pixel, read_answer, everywhere, black, read_drawing}
use Rattle.pbm.specs.Shown.{SameSize, cleared}
use Rattle.pbm.proofs.Answers.{bit_ink}
use Rattle.pbm.proofs.Bits.{holds_below, not_not}
use Rattle.pbm.proofs.Grammar.{page_names, names_page}
use Rattle.pbm.proofs.Raster.{bit_small, packed_as, raster_ends}
use Rattle.pbm.proofs.Standing.{digit_value}

-- the value of decimal digits is the number that they were made of
value_append : (v : ℕ) (a b : List ℕ) → value_after v (a ++ b) ≡ value_after (value_after v a) b
unfolding value_after
value_append v [] b = refl
value_append v (c ∷ a) b = value_append (10 * v + (c - 48)) a b

some_last : {test : ℕ → Bool} (s : List ℕ) (c : ℕ) → Some test s → test c ≡ true → Some test (s ++ (c ∷ []))
some_last _ c (Some.one b e) f = Some.more b (c ∷ []) e (Some.one c f)
some_last _ c (Some.more b s e h) f = Some.more b (s ++ (c ∷ [])) e (some_last s c h f)

is_digit : (v : ℕ) → v < 10 → digit (48 + v) ≡ true
is_digit v l = rw (le-leb 48 (48 + v) (omega arith), le-leb (48 + v) 57 (omega arith)) refl

record Digits (v : ℕ) (s : List ℕ) : Type 0 where
  some : Some digit s
  value : value_after 0 s ≡ v

digits_in : (n v : ℕ) → v < n → Digits v (decimal_in n v)
unfolding decimal_in value_after
digits_in zero v l = absurd (omega arith)
digits_in (suc n) v l = by (ltb v 10) refl (λ m. digits_in n (v / 10) m)
  where
    by : (t : Bool) → ltb v 10 ≡ t → (v / 10 < n → Digits (v / 10) (decimal_in n (v / 10))) → Digits v (cond t ((48 + v) ∷ []) (decimal_in n (v / 10) ++ ((48 + v % 10) ∷ [])))
    by true e h = record { some = Some.one (48 + v) (is_digit v (ltb-true v 10 e)); value = omega arith }
    by false e h =
        let g = h (omega (arith, ltb-false v 10 e)) in
        record {
          some = some_last (decimal_in n (v / 10)) (48 + v % 10) g.some (is_digit (v % 10) (omega arith));
          value = value_append 0 (decimal_in n (v / 10)) ((48 + v % 10) ∷ []) ∙ ap (λ (w : ℕ). 10 * w + (48 + v % 10 - 48)) g.value ∙ omega arith;
        }

digits_of : (v : ℕ) → Digits v (decimal v)
unfolding decimal
digits_of v = digits_in (suc v) v (omega arith)

-- digits, which are no #, begin a file without comments
digit_plain : (c : ℕ) → digit c ≡ true → eqb c 35 ≡ false
digit_plain c e = ne_eqb c 35 (λ f. omega (arith, (digit_value c e).0))

plain_digits : (s : List ℕ) → Some digit s → (rest after more : List ℕ) → Begins rest more after → Begins (s ++ rest) (s ++ more) after
plain_digits _ (Some.one c e) rest after more h = Begins.byte c rest more after (digit_plain c e) h
plain_digits _ (Some.more c s e o) rest after more h = Begins.byte c (s ++ rest) (s ++ more) after (digit_plain c e) (plain_digits s o rest after more h)

-- what we write is headed by the page's rules
pub written_headed : (width height : ℕ) (rows : List ℕ) → Headed (header_bytes width height ++ rows) width height rows
unfolding header_bytes
written_headed width height rows =
    let w = digits_of width in
    let h = digits_of height in
    let dw = decimal width in
    let dh = decimal height in
    let m : List ℕ = 80 ∷ 52 ∷ 10 ∷ [] in
    record {
      gap = 10 ∷ [];
      across = dw;
      space = 32 ∷ [];
      down = dh;
      last = 10;
      gaps = Some.one 10 refl;
      acrosses = w.some;
      spaces = Some.one 32 refl;
      downs = h.some;
      lasts = refl;
      wide = w.value;
      high = h.value;
      begins = subst (λ (f : List ℕ). Begins (80 ∷ 52 ∷ 10 ∷ (dw ++ (32 ∷ (dh ++ (10 ∷ []))))) f rows)
          (sym (append_assoc (m ++ dw ++ (32 ∷ []) ++ dh) (10 ∷ []) rows ∙ append_assoc (m ++ dw ++ (32 ∷ [])) dh (10 ∷ rows) ∙ append_assoc (m ++ dw) (32 ∷ []) (dh ++ (10 ∷ rows)) ∙ append_assoc m dw (32 ∷ (dh ++ (10 ∷ rows)))))
          (Begins.byte 80 _ _ rows refl (Begins.byte 52 _ _ rows refl (Begins.byte 10 _ _ rows refl
          (plain_digits dw w.some (32 ∷ (dh ++ (10 ∷ []))) rows (32 ∷ (dh ++ (10 ∷ rows)))
          (Begins.byte 32 _ _ rows refl (plain_digits dh h.some (10 ∷ []) rows (10 ∷ rows) (Begins.byte 10 [] rows rows refl (Begins.here rows))))))));
    }

-- bits that were packed are there again
quotient_bit : (p d a b l : ℕ) → p ≡ (2 * a + b) * d + l → l < d → b ≤ 1 → p / d % 2 ≡ b
quotient_bit p d a b l e h m = ap (λ (q : ℕ). q % 2) (sym (div_is p d (2 * a + b) (omega arith) (omega arith))) ∙ omega arith

packed_bit : (f : ℕ → ℕ) → ((i : ℕ) → f i ≤ 1) → (i : ℕ) → i < 8 → bit_at (packed 8 f) i ≡ f i
unfolding packed
packed_bit f s zero l = quotient_bit _ 128 0 (f 0) (64 * f 1 + 32 * f 2 + 16 * f 3 + 8 * f 4 + 4 * f 5 + 2 * f 6 + f 7) (omega arith) (omega (arith, s 1, s 2, s 3, s 4, s 5, s 6, s 7)) (s 0)
packed_bit f s (suc zero) l = quotient_bit _ 64 (f 0) (f 1) (32 * f 2 + 16 * f 3 + 8 * f 4 + 4 * f 5 + 2 * f 6 + f 7) (omega arith) (omega (arith, s 2, s 3, s 4, s 5, s 6, s 7)) (s 1)
packed_bit f s (suc (suc zero)) l = quotient_bit _ 32 (2 * f 0 + f 1) (f 2) (16 * f 3 + 8 * f 4 + 4 * f 5 + 2 * f 6 + f 7) (omega arith) (omega (arith, s 3, s 4, s 5, s 6, s 7)) (s 2)
packed_bit f s (suc (suc (suc zero))) l = quotient_bit _ 16 (4 * f 0 + 2 * f 1 + f 2) (f 3) (8 * f 4 + 4 * f 5 + 2 * f 6 + f 7) (omega arith) (omega (arith, s 4, s 5, s 6, s 7)) (s 3)
packed_bit f s (suc (suc (suc (suc zero)))) l = quotient_bit _ 8 (8 * f 0 + 4 * f 1 + 2 * f 2 + f 3) (f 4) (4 * f 5 + 2 * f 6 + f 7) (omega arith) (omega (arith, s 5, s 6, s 7)) (s 4)
packed_bit f s (suc (suc (suc (suc (suc zero))))) l = quotient_bit _ 4 (16 * f 0 + 8 * f 1 + 4 * f 2 + 2 * f 3 + f 4) (f 5) (2 * f 6 + f 7) (omega arith) (omega (arith, s 6, s 7)) (s 5)
packed_bit f s (suc (suc (suc (suc (suc (suc zero)))))) l = quotient_bit _ 2 (32 * f 0 + 16 * f 1 + 8 * f 2 + 4 * f 3 + 2 * f 4 + f 5) (f 6) (f 7) (omega arith) (omega (arith, s 7)) (s 6)
packed_bit f s (suc (suc (suc (suc (suc (suc (suc zero))))))) l = quotient_bit _ 1 (64 * f 0 + 32 * f 1 + 16 * f 2 + 8 * f 3 + 4 * f 4 + 2 * f 5 + f 6) (f 7) 0 (omega arith) (omega arith) (s 7)
packed_bit f s (suc (suc (suc (suc (suc (suc (suc (suc i)))))))) l = absurd (omega arith)

-- a picture that is read: its sheet, its header, its bytes, and what each cell is then
unless_both : (s t : Bool) → is_done (unless s Header (unless t Pixels (done []))) ≡ true → (s ≡ true) × (t ≡ true)
unless_both true true e = (refl, refl)
unless_both true false e = absurd (true≢false (sym e))
unless_both false t e = absurd (true≢false (sym e))

pixel_low : (width : ℕ) (rows : List ℕ) (x y : ℕ) → pixel width rows x y < 2
unfolding pixel
pixel_low width rows x y = mod-lt _ (omega arith)

module _ (k : Shape) (file t bytes : List ℕ) (reply : Answer) (h : Paints (read_drawing k file) t reply bytes) (ok : is_done reply ≡ true) where
  answered : is_done (read_answer k file (length t)) ≡ true
  answered = ap is_done (sym h.tells) ∙ ok

  pub read_fits : fits k (length t) ≡ true
  unfolding read_answer
  read_fits = done_sheet k (length t) _ answered

  pub read_named : (names k.width k.height file ≡ true) × (leb (raster_byte_count k) (length (rows_of file)) ≡ true)
  unfolding read_answer
  read_named =
      unless_both (names k.width k.height file) (leb (raster_byte_count k) (length (rows_of file)))
      (ap is_done (sym (if_sheet_lem k (length t) read_fits (unless (names k.width k.height file) Header (unless (leb (raster_byte_count k) (length (rows_of file))) Pixels (done []))))) ∙ answered)

  pub read_cell : (x y : ℕ) → x < k.width → y < k.height → get_or bytes (place k (cell_of x y)) 0 ≡ pixel k.width (rows_of file) x y
  unfolding black
  read_cell x y l m =
      let z = fits_sheet k t read_fits in
      let c = cell_of x y in
      let on = on_sheet_lem k x y l m in
      let below = cell_below k t z c on in
      let blank : List ℕ = paint k 0 everywhere t in
      ap (λ (b : List ℕ). get_or b (place k c) 0) (drawn (read_drawing k file) t reply bytes h answered)
      ∙ paint_cell k 1 z.disjoint (black k.width (rows_of file)) blank c on (omega (arith, below, paint_length k 0 everywhere t))
      ∙ ap (λ (v : ℕ). cond (eqb (pixel k.width (rows_of file) x y) 1) 1 v) (paint_cell k 0 z.disjoint everywhere t c on below)
      ∙ bit_ink (pixel k.width (rows_of file) x y) (pixel_low k.width (rows_of file) x y)

bit_bit : (b : ℕ) → b < 2 → bit_of b ≡ b
bit_bit zero l = refl
bit_bit (suc zero) l = refl
bit_bit (suc (suc b)) l = absurd (omega arith)

-- the bit of a cell, where its row has it
sheet_bit_lem : (k : Shape) (s : List ℕ) (x y : ℕ) → x < k.width → sheet_bit k s y x ≡ bit_of (get_or s (place k (cell_of x y)) 0)
unfolding sheet_bit
sheet_bit_lem k s x y l = ap (λ (t : Bool). cond t (bit_of (get_or s (place k (cell_of x y)) 0)) 0) (lt-ltb x k.width l)

sheet_small : (k : Shape) (s : List ℕ) (y x : ℕ) → sheet_bit k s y x ≤ 1
unfolding sheet_bit
sheet_small k s y x = by (ltb x k.width) (bit_small (eqb (get_or s (place k (cell_of x y)) 0) 0))
  where
    by : (t : Bool) {v : ℕ} → v ≤ 1 → cond t v 0 ≤ 1
    by true l = l
    by false l = omega arith

-- the pixel of what was written
pixel_written : (k : Shape) (s more : List ℕ) (x y : ℕ) → x < k.width → y < k.height
    → pixel k.width (each (raster_byte_count k) (raster_byte k s) ++ more) x y ≡ bit_of (get_or s (place k (cell_of x y)) 0)
unfolding pixel raster_byte
pixel_written k s more x y l m =
    let rb = row_byte_count k.width in
    let j : x / 8 < rb = omega arith in
    let at = y * rb + x / 8 in
    let inside : at < raster_byte_count k = omega (arith, raster_ends k.height y rb m) in
    let e : x / 8 * 8 + x % 8 ≡ x = omega arith in
    let bits : ℕ → ℕ = λ i. sheet_bit k s (at / rb) (at % rb * 8 + i) in
    ap (λ (b : ℕ). bit_at b (x % 8))
    (get_or_before (each (raster_byte_count k) (raster_byte k s)) more at (omega (arith, length-each (raster_byte_count k) (raster_byte k s))) ∙ get_or-each (raster_byte_count k) (raster_byte k s) at inside)
    ∙ packed_bit bits (λ i. sheet_small k s (at / rb) (at % rb * 8 + i)) (x % 8) (omega arith)
    ∙ ap₂ (λ (a b : ℕ). sheet_bit k s a (b * 8 + x % 8)) (digits_div y j) (digits_mod y j)
    ∙ ap (sheet_bit k s y) e
    ∙ sheet_bit_lem k s x y l

-- Reading what was written.
module _ (k j : Shape) (s t more : List ℕ) (reply : Answer) (bytes : List ℕ) (sheet : is_done (if_sheet j (length t) (done [])) ≡ true) (same : SameSize k j)
    (h : Paints (read_drawing j (picture_of k s ++ more)) t reply bytes) where
  rows : List ℕ
  rows = each (raster_byte_count k) (raster_byte k s) ++ more

  found : (names k.width k.height (picture_of k s ++ more) ≡ true) × (rows_of (picture_of k s ++ more) ≡ rows)
  unfolding picture_of rows
  found =
      subst (λ (f : List ℕ). (names k.width k.height f ≡ true) × (rows_of f ≡ rows))
      (sym (append_assoc (header_bytes k.width k.height) (each (raster_byte_count k) (raster_byte k s)) more))
      (page_names (written_headed k.width k.height rows))

  enough : raster_byte_count j ≤ length (rows_of (picture_of k s ++ more))
  unfolding rows
  enough =
      let sizes : raster_byte_count j ≡ raster_byte_count k = ap₂ (λ (a b : ℕ). b * row_byte_count a) same.widths same.heights in
      omega (arith, ap length found.1, length-append (each (raster_byte_count k) (raster_byte k s)) more, length-each (raster_byte_count k) (raster_byte k s))

  pub back_done : is_done reply ≡ true
  unfolding read_answer
  back_done =
      let named : names j.width j.height (picture_of k s ++ more) ≡ true = rw (same.widths, same.heights) found.0 in
      let read : reply ≡ done [] = h.tells ∙ if_sheet_lem j (length t) (done_sheet j (length t) (done []) sheet) _ ∙ simp (named, le-leb (raster_byte_count j) (length (rows_of (picture_of k s ++ more))) enough) in
      ap is_done read

  pub back_cell : (x y : ℕ) → x < k.width → y < k.height → get_or bytes (place j (cell_of x y)) 0 ≡ bit_of (get_or s (place k (cell_of x y)) 0)
  unfolding rows
  back_cell x y l m =
      read_cell j (picture_of k s ++ more) t bytes reply h back_done x y (omega (arith, same.widths)) (omega (arith, same.heights))
      ∙ ap₂ (λ (w : ℕ) (r : List ℕ). pixel w r x y) same.widths found.1
      ∙ pixel_written k s more x y l m

-- a byte of which the first m bits are kept, tested for every byte
kept : ℕ → ℕ → Bool
kept m b = eqb (packed 8 (λ (i : ℕ). cond (ltb i m) (bit_at b i) 0)) (b - b % 2 ^ (8 - m))

kept_all : any 9 (λ (m : ℕ). not (not (any 256 (λ (b : ℕ). not (kept m b))))) ≡ false
unfolding kept packed any
kept_all = refl

kept_is : (m b : ℕ) → m < 9 → b < 256 → packed 8 (λ (i : ℕ). cond (ltb i m) (bit_at b i) 0) ≡ b - b % 2 ^ (8 - m)
unfolding kept
kept_is m b l h =
    eqb-true _ _ (holds_below 256 (kept m) (not_not (any 256 (λ (b : ℕ). not (kept m b))) (holds_below 9 (λ (m : ℕ). not (any 256 (λ (b : ℕ). not (kept m b)))) kept_all m l)) b h)

-- so the bits of a row's byte within the width are that byte, cleared
test_moved : (x i m w : ℕ) → (x + i < w → i < m) → (i < m → x + i < w) → Dec (i < m) → ltb (x + i) w ≡ ltb i m
test_moved x i m w f g (yes l) = lt-ltb (x + i) w (g l) ∙ sym (lt-ltb i m l)
test_moved x i m w f g (no l) = by (dec_lt (x + i) w)
  where
    by : Dec (x + i < w) → ltb (x + i) w ≡ ltb i m
    by (yes a) = absurd (l (f a))
    by (no a) = le-ltb (x + i) w (omega arith) ∙ sym (le-ltb i m (omega arith))

cleared_is : (w n b : ℕ) → 1 ≤ w → b < 256 → packed 8 (λ (i : ℕ). cond (ltb (n % row_byte_count w * 8 + i) w) (bit_at b i) 0) ≡ cleared w n b
unfolding cleared
cleared_is w n b broad small = by (ℕ_discrete (n % row_byte_count w + 1) (row_byte_count w))
  where
    cut : (m : ℕ) → ((i : ℕ) → i < 8 → n % row_byte_count w * 8 + i < w → i < m) → ((i : ℕ) → i < 8 → i < m → n % row_byte_count w * 8 + i < w)
        → packed 8 (λ (i : ℕ). cond (ltb (n % row_byte_count w * 8 + i) w) (bit_at b i) 0) ≡ packed 8 (λ (i : ℕ). cond (ltb i m) (bit_at b i) 0)
    cut m f g =
        packed_as 8 (λ (i : ℕ). cond (ltb (n % row_byte_count w * 8 + i) w) (bit_at b i) 0) (λ (i : ℕ). cond (ltb i m) (bit_at b i) 0)
        (λ i l. ap (λ (t : Bool). cond t (bit_at b i) 0) (test_moved (n % row_byte_count w * 8) i m w (f i l) (g i l) (dec_lt i m)))

    by : Dec (n % row_byte_count w + 1 ≡ row_byte_count w)
        → packed 8 (λ (i : ℕ). cond (ltb (n % row_byte_count w * 8 + i) w) (bit_at b i) 0) ≡ cond (eqb (n % row_byte_count w + 1) (row_byte_count w)) (b - b % 2 ^ (row_byte_count w * 8 - w)) b
    by (yes e) =
        let m = w - n % row_byte_count w * 8 in
        let p : 8 - m ≡ row_byte_count w * 8 - w = omega arith in
        cut m (λ i l q. omega arith) (λ i l q. omega arith)
        ∙ kept_is m b (omega arith) small
        ∙ ap (λ (q : ℕ). b - b % 2 ^ q) p
        ∙ sym (ap (λ (t : Bool). cond t (b - b % 2 ^ (row_byte_count w * 8 - w)) b) (eq-eqb (n % row_byte_count w + 1) (row_byte_count w) e))
    by (no e) =
        let r : n % row_byte_count w < row_byte_count w = mod-lt n (omega arith) in
        cut 8 (λ i l q. l) (λ i l q. omega arith)
        ∙ kept_is 8 b (omega arith) small
        ∙ omega arith
        ∙ sym (ap (λ (t : Bool). cond t (b - b % 2 ^ (row_byte_count w * 8 - w)) b) (ne_eqb (n % row_byte_count w + 1) (row_byte_count w) e))

-- the rows of a file of bytes are bytes
begins_bytes : (text file after : List ℕ) → Begins text file after → ((n : ℕ) → get_or file n 0 < 256) → (n : ℕ) → get_or after n 0 < 256
begins_bytes _ _ _ (Begins.here after) h n = h n
begins_bytes _ _ _ (Begins.byte c text file after e b) h n = begins_bytes text file after b (λ i. h (suc i)) n
begins_bytes _ _ _ (Begins.skip comment c text file after m b) h n =
    begins_bytes (c ∷ text) file after b (λ i. subst (λ (v : ℕ). v < 256) (get_or-append-add comment file i 0) (h (suc (length comment + i)))) n

-- Writing what was read.
module _ (k : Shape) (file t bytes : List ℕ) (reply : Answer) (own : (n : ℕ) → get_or file n 0 < 256) (h : Paints (read_drawing k file) t reply bytes) (ok : is_done reply ≡ true) where
  abbrev read : List ℕ
  read = rows_of file

  abbrev rb : ℕ
  rb = row_byte_count k.width

  row_in : (n : ℕ) → n < raster_byte_count k → n / rb < k.height
  row_in n l = by (dec_lt (n / rb) k.height)
    where
      by : Dec (n / rb < k.height) → n / rb < k.height
      by (yes m) = m
      by (no m) = let q : k.height * rb ≤ n / rb * rb = mul-le-mul_right rb (omega arith) in absurd (omega (arith, div-add-mod' n rb))

  bit_again : (n i : ℕ) → n < raster_byte_count k → i < 8 → sheet_bit k bytes (n / rb) (n % rb * 8 + i) ≡ cond (ltb (n % rb * 8 + i) k.width) (bit_at (get_or read n 0) i) 0
  unfolding sheet_bit pixel
  bit_again n i l m = by (dec_lt (n % rb * 8 + i) k.width)
    where
      by : Dec (n % rb * 8 + i < k.width)
          → cond (ltb (n % rb * 8 + i) k.width) (bit_of (get_or bytes (place k (cell_of (n % rb * 8 + i) (n / rb))) 0)) 0 ≡ cond (ltb (n % rb * 8 + i) k.width) (bit_at (get_or read n 0) i) 0
      by (yes a) =
          let x = n % rb * 8 + i in
          let e : x / 8 ≡ n % rb = omega arith in
          let f : x % 8 ≡ i = omega arith in
          let g : n / rb * rb + x / 8 ≡ n = ap (λ (j : ℕ). n / rb * rb + j) e ∙ div-add-mod' n rb in
          let same : bit_of (get_or bytes (place k (cell_of x (n / rb))) 0) ≡ bit_at (get_or read n 0) i =
          ap bit_of (read_cell k file t bytes reply h ok x (n / rb) a (row_in n l))
          ∙ bit_bit (pixel k.width read x (n / rb)) (pixel_low k.width read x (n / rb))
          ∙ ap₂ (λ (at j : ℕ). bit_at (get_or read at 0) j) g f in
          ap (λ (v : ℕ). cond (ltb x k.width) v 0) same
      by (no a) =
          let q = le-ltb (n % rb * 8 + i) k.width (omega arith) in
          ap (λ (t : Bool). cond t (bit_of (get_or bytes (place k (cell_of (n % rb * 8 + i) (n / rb))) 0)) 0) q ∙ sym (ap (λ (t : Bool). cond t (bit_at (get_or read n 0) i) 0) q)

  pub again_rows : picture_of k bytes ≡ header_bytes k.width k.height ++ each (raster_byte_count k) (λ (n : ℕ). cleared k.width n (get_or read n 0))
  unfolding picture_of raster_byte
  again_rows =
      let page = names_page file k.width k.height (read_named k file t bytes reply h ok).0 in
      ap (λ (r : List ℕ). header_bytes k.width k.height ++ r)
      (each_as (raster_byte_count k) (raster_byte k bytes) (λ (n : ℕ). cleared k.width n (get_or read n 0))
      (λ n l.
      packed_as 8 (λ (i : ℕ). sheet_bit k bytes (n / rb) (n % rb * 8 + i)) (λ (i : ℕ). cond (ltb (n % rb * 8 + i) k.width) (bit_at (get_or read n 0) i) 0) (λ i m. bit_again n i l m)
      ∙ cleared_is k.width n (get_or read n 0) (fits_sheet k t (read_fits k file t bytes reply h ok)).broad (begins_bytes _ file read page.begins own n)))
