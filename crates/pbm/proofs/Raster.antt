-- Rows, byte by byte and cell by cell: what the loops over them keep.
use Prim.Native.Nat.{ℕ, zero, suc, ◌+◌, ◌*◌, ◌-◌, ◌/◌, ◌%◌, ◌≤◌, ◌<◌}
use mathlib.Core.Path.{◌≡◌, refl, sym, subst, ap, ap₂, ◌∙◌}
use mathlib.Core.List.{List}
use mathlib.Core.Bool.{Bool, true, false, cond, ◌&&◌}
use native.Mathlib.Omega.{arith}
use native.Mathlib.Decide.{dec_lt}
use native.Mathlib.Nat.{zero-mul, sub-zero, div-add-mod', mod-lt, mul-le-mul_right}
use borrow.Author.Tests.{lt-ltb, le-ltb}
use lib.Arith.{digits_div, digits_mod}
use lib.Dec.{eqb, ltb}
use lib.ListN.{length, get_or, set, replicate, length-set, length-replicate}
use lib.Seq.{sets, length-sets}
use Rattle.laws.specs.Below.{each}
use Rattle.laws.proofs.Each.{each_as, put_plus, put_one}
use Rattle.sheet.specs.Sheet.{place}
use Rattle.sheet.specs.declared.Shape.{Shape}
use Rattle.sheet.proofs.Places.{get_or_by, get_d_kept, by_as, by_none, by_then, written, put_by, written_in, written_before, written_after}
use Rattle.pbm.specs.Picture.{row_byte_count, packed, bit_of, sheet_bit, raster_byte}
use Rattle.pbm.specs.Reading.{bit_at}
use Rattle.pbm.specs.Inner.{flag_at, Flags, packed_at, spread, byte_of, row_bit, laid}
use Rattle.pbm.proofs.Bits.{byte_bit}

-- the first n of some numbers are put at a place, one after the other
pub record Puts (before : List ℕ) (at : ℕ) (f : ℕ → ℕ) (out : List ℕ) (n : ℕ) : Type 0 where
  pub size : length out ≡ length before
  pub is : out ≡ sets before at (each n f)

pub puts_none : (before : List ℕ) (at : ℕ) (f : ℕ → ℕ) → Puts before at f before 0
unfolding each
puts_none before at f = record { size = refl; is = refl }

pub puts_one : {before : List ℕ} {at : ℕ} {f : ℕ → ℕ} {out : List ℕ} {n v p : ℕ} → Puts before at f out n → p ≡ at + n → v ≡ f n
    → Puts before at f (set out p v) (n + 1)
puts_one {before} {at} {f} {out} {n} {v} {p} h g e =
    record {
      size = length-set out p v ∙ h.size;
      is = ap₂ (λ (o : List ℕ) (m : ℕ). set o m v) h.is g ∙ put_one before at n v f e;
    }

-- some more of them at once
pub puts_more : {before : List ℕ} {at : ℕ} {f : ℕ → ℕ} {out after : List ℕ} {n : ℕ} (m p : ℕ) (g : ℕ → ℕ) → Puts before at f out n → p ≡ n + m
    → ((i : ℕ) → i < m → g i ≡ f (n + i)) → after ≡ sets out (at + n) (each m g) → Puts before at f after p
puts_more {before} {at} {f} {out} {after} {n} m p g h l same e =
    let is =
    e
    ∙ ap₂ (λ (o x : List ℕ). sets o (at + n) x) h.is (each_as m g (λ (i : ℕ). f (n + i)) same)
    ∙ sym (put_plus before at n m f)
    ∙ ap (λ (k : ℕ). sets before at (each k f)) (sym l) in
    record { size = ap length is ∙ length-sets before at (each p f); is = is }

-- the bits of a row's byte j
row_bits : (p : List ℕ) (from j i : ℕ) → i < 8 → bit_at (get_or p (from + j) 0) i ≡ row_bit p from (j * 8 + i)
unfolding row_bit
row_bits p from j i l =
    let q : j ≡ (j * 8 + i) / 8 = omega arith in
    let r : i ≡ (j * 8 + i) % 8 = omega arith in
    ap₂ (λ (a b : ℕ). bit_at (get_or p (from + a) 0) b) q r

-- and the cells that a table has for it
pub cells_are : (p : List ℕ) (from j v i : ℕ) → v ≡ spread 8 (get_or p (from + j) 0) → get_or p (from + j) 0 < 256 → i < 8 → byte_of v i ≡ row_bit p from (j * 8 + i)
cells_are p from j v i e l m = ap (λ (n : ℕ). byte_of n i) e ∙ byte_bit (get_or p (from + j) 0) i l m ∙ row_bits p from j i m

-- a flag is that of its cell
pub flag_is : (s : List ℕ) (from x v : ℕ) → v ≡ bit_of (get_or s (from + x) 0) → v ≡ flag_at s from x
unfolding flag_at
flag_is s from x v e = e

pub bit_small : (t : Bool) → cond t 0 1 ≤ 1
bit_small true = omega arith
bit_small false = omega arith

pub flag_small : (s : List ℕ) (from x : ℕ) → flag_at s from x ≤ 1
unfolding flag_at
flag_small s from x = bit_small (eqb (get_or s (from + x) 0) 0)

-- the flags of a row, with zeros after its width
pub record Padded (width : ℕ) (flags : List ℕ) : Type 0 where
  pub size : length flags ≡ 4096
  pub zeros : (i : ℕ) → width ≤ i → get_or flags i 0 ≡ 0

module _ (width : ℕ) (f : ℕ → ℕ) (before flags : List ℕ) (wide : width ≤ 4096) (h : Padded width before) (e : flags ≡ sets before 0 (each width f)) where
  flags_in : (x : ℕ) → x < width → get_or flags x 0 ≡ f x
  flags_in x l =
      ap (λ (s : List ℕ). get_or s x 0) (e ∙ put_by before 0 width f)
      ∙ get_or_by (written 0 width f) before x (omega (arith, h.size))
      ∙ written_in 0 width f x (get_or before x 0) (omega arith) (omega arith)
      ∙ ap f (sub-zero x)

  flags_out : (x : ℕ) → width ≤ x → get_or flags x 0 ≡ 0
  flags_out x l =
      ap (λ (s : List ℕ). get_or s x 0) (e ∙ put_by before 0 width f)
      ∙ get_d_kept (written 0 width f) before x (λ v. written_after 0 width f x v (omega arith))
      ∙ h.zeros x l

  pub padded_again : Padded width flags
  padded_again = record { size = ap length e ∙ length-sets before 0 (each width f) ∙ h.size; zeros = flags_out }

  pub flags_small : ((x : ℕ) → f x ≤ 1) → Flags flags
  flags_small s x = by (dec_lt x width)
    where
      by : Dec (x < width) → get_or flags x 0 ≤ 1
      by (yes l) = omega (arith, flags_in x l, s x)
      by (no l) = omega (arith, flags_out x (omega arith))

  flag_at_lem : (x : ℕ) → get_or flags x 0 ≡ cond (ltb x width) (f x) 0
  flag_at_lem x = by (dec_lt x width)
    where
      by : Dec (x < width) → get_or flags x 0 ≡ cond (ltb x width) (f x) 0
      by (yes l) = flags_in x l ∙ sym (ap (λ (t : Bool). cond t (f x) 0) (lt-ltb x width l))
      by (no l) = flags_out x (omega arith) ∙ sym (ap (λ (t : Bool). cond t (f x) 0) (le-ltb x width (omega arith)))

-- bits that are equal make equal numbers
pub packed_as : (n : ℕ) (f g : ℕ → ℕ) → ((i : ℕ) → i < n → f i ≡ g i) → packed n f ≡ packed n g
unfolding packed
packed_as zero f g h = refl
packed_as (suc n) f g h = ap₂ (λ (a b : ℕ). 2 * a + b) (packed_as n f g (λ i l. h i (omega arith))) (h n (omega arith))

-- the byte of flagged cells is that of the rows
row_byte : (k : Shape) (s before flags : List ℕ) (y j : ℕ) → k.width ≤ 4096 → Padded k.width before
    → flags ≡ sets before 0 (each k.width (flag_at s (y * k.pitch))) → j < row_byte_count k.width
    → packed_at flags (j * 8) ≡ raster_byte k s (y * row_byte_count k.width + j)
unfolding packed_at raster_byte sheet_bit place flag_at
row_byte k s before flags y j wide h e l =
    packed_as 8 (λ (i : ℕ). get_or flags (j * 8 + i) 0) (λ (i : ℕ). sheet_bit k s ((y * row_byte_count k.width + j) / row_byte_count k.width) ((y * row_byte_count k.width + j) % row_byte_count k.width * 8 + i))
    (λ i m.
    flag_at_lem k.width (flag_at s (y * k.pitch)) before flags wide h e (j * 8 + i)
    ∙ ap₂ (λ (a b : ℕ). sheet_bit k s a (b * 8 + i)) (sym (digits_div y l)) (sym (digits_mod y l)))

-- the rows before y are written, of any sheet of this width and pitch
pub record Rasters (s before : List ℕ) (at width pitch : ℕ) (out flags : List ℕ) (y : ℕ) : Type 0 where
  pub padded : Padded width flags
  pub size : length out ≡ length before
  pub is : (k : Shape) → k.width ≡ width → k.pitch ≡ pitch → Puts before at (raster_byte k s) out (y * row_byte_count width)

pub rasters_none : (s before : List ℕ) (at width pitch : ℕ) (flags : List ℕ) → Padded width flags → Rasters s before at width pitch before flags 0
rasters_none s before at width pitch flags h = record { padded = h; size = refl; is = λ k e f. subst (λ (n : ℕ). Puts before at (raster_byte k s) before n) (sym (zero-mul (row_byte_count width))) (puts_none before at (raster_byte k s)) }

pub rasters_one : {s before : List ℕ} {at width pitch : ℕ} {out flags : List ℕ} {y : ℕ} (flagged after : List ℕ) (count : ℕ) → width ≤ 4096
    → Rasters s before at width pitch out flags y → count ≡ row_byte_count width → flagged ≡ sets flags 0 (each width (flag_at s (y * pitch)))
    → after ≡ sets out (at + y * count) (each count (λ (j : ℕ). packed_at flagged (j * 8))) → Rasters s before at width pitch after flagged (y + 1)
rasters_one {s} {before} {at} {width} {pitch} {out} {flags} {y} flagged after count wide h c e f =
    record {
      padded = padded_again width (flag_at s (y * pitch)) flags flagged wide h.padded e;
      size = ap length f ∙ length-sets out (at + y * count) (each count (λ (j : ℕ). packed_at flagged (j * 8))) ∙ h.size;
      is = λ k p q. one k p q;
    }
  where
    one : (k : Shape) → k.width ≡ width → k.pitch ≡ pitch → Puts before at (raster_byte k s) after ((y + 1) * row_byte_count width)
    one k p q =
        let g : flagged ≡ sets flags 0 (each k.width (flag_at s (y * k.pitch))) = rw (p, q) e in
        let pad : Padded k.width flags = subst (λ (w : ℕ). Padded w flags) (sym p) h.padded in
        puts_more count ((y + 1) * row_byte_count width) (λ (j : ℕ). packed_at flagged (j * 8)) (h.is k p q) (omega arith)
        (λ j l.
        row_byte k s flags flagged y j (omega arith) pad g (omega (arith, ap row_byte_count p))
        ∙ ap (λ (w : ℕ). raster_byte k s (y * row_byte_count w + j)) p)
        (f ∙ ap (λ (n : ℕ). sets out (at + y * n) (each count (λ (j : ℕ). packed_at flagged (j * 8)))) c)

-- the rows before y are laid: one more
at_row : (pitch n y : ℕ) → 1 ≤ pitch → n / pitch ≡ y → n ≡ y * pitch + n % pitch
at_row pitch n y l e = sym (div-add-mod' n pitch) ∙ ap (λ (q : ℕ). q * pitch + n % pitch) e

module _ (k : Shape) (p : List ℕ) (from y : ℕ) (disjoint : k.width ≤ k.pitch) (broad : 1 ≤ k.width) where
  abbrev bit : ℕ → ℕ
  bit n = row_bit p (from + n / k.pitch * row_byte_count k.width) (n % k.pitch)

  abbrev row : ℕ → ℕ
  row = row_bit p (from + y * row_byte_count k.width)

  laid_next : (n v : ℕ) → Dec (n / k.pitch < y) → Dec (y < n / k.pitch) → Dec (n % k.pitch < k.width)
      → written (y * k.pitch) k.width row n (cond (ltb (n % k.pitch) k.width && ltb (n / k.pitch) y) (bit n) v)
      ≡ cond (ltb (n % k.pitch) k.width && ltb (n / k.pitch) (y + 1)) (bit n) v
  laid_next n v (yes a) b c =
      let m = mul-le-mul_right k.pitch a in
      let r : n % k.pitch < k.pitch = mod-lt n (omega arith) in
      written_before (y * k.pitch) k.width row n _ (omega (arith, div-add-mod' n k.pitch))
      ∙ ap (λ (t : Bool). cond (ltb (n % k.pitch) k.width && t) (bit n) v) (lt-ltb (n / k.pitch) y a ∙ sym (lt-ltb (n / k.pitch) (y + 1) (omega arith)))
  laid_next n v (no a) (yes b) c =
      let m = mul-le-mul_right k.pitch b in
      written_after (y * k.pitch) k.width row n _ (omega (arith, div-add-mod' n k.pitch))
      ∙ ap (λ (t : Bool). cond (ltb (n % k.pitch) k.width && t) (bit n) v) (le-ltb (n / k.pitch) y (omega arith) ∙ sym (le-ltb (n / k.pitch) (y + 1) (omega arith)))
  laid_next n v (no a) (no b) (yes c) =
      let q : n / k.pitch ≡ y = omega arith in
      let e = at_row k.pitch n y (omega arith) q in
      let d : n - y * k.pitch ≡ n % k.pitch = omega arith in
      written_in (y * k.pitch) k.width row n (cond (ltb (n % k.pitch) k.width && ltb (n / k.pitch) y) (bit n) v) (omega arith) (omega arith)
      ∙ ap₂ (λ (z x : ℕ). row_bit p (from + z * row_byte_count k.width) x) (sym q) d
      ∙ sym (ap₂ (λ (s t : Bool). cond (s && t) (bit n) v) (lt-ltb (n % k.pitch) k.width c) (lt-ltb (n / k.pitch) (y + 1) (omega arith)))
  laid_next n v (no a) (no b) (no c) =
      let q : n / k.pitch ≡ y = omega arith in
      let e = at_row k.pitch n y (omega arith) q in
      written_after (y * k.pitch) k.width row n _ (omega arith)
      ∙ ap (λ (t : Bool). cond (t && ltb (n / k.pitch) y) (bit n) v) (le-ltb (n % k.pitch) k.width (omega arith))
      ∙ sym (ap (λ (t : Bool). cond (t && ltb (n / k.pitch) (y + 1)) (bit n) v) (le-ltb (n % k.pitch) k.width (omega arith)))

  laid_one : (s : List ℕ) → sets (laid k p from y s) (y * k.pitch) (each k.width row) ≡ laid k p from (y + 1) s
  unfolding laid
  laid_one s =
      put_by _ (y * k.pitch) k.width row
      ∙ by_then _ (written (y * k.pitch) k.width row) s
      ∙ by_as _ _ s (λ n v l. laid_next n v (dec_lt (n / k.pitch) y) (dec_lt y (n / k.pitch)) (dec_lt (n % k.pitch) k.width))

laid_none : (k : Shape) (p : List ℕ) (from : ℕ) (s : List ℕ) → s ≡ laid k p from 0 s
unfolding laid
laid_none k p from s = sym (by_none s) ∙ by_as (λ (n v : ℕ). v) _ s (λ n v l. none n v (ltb (n % k.pitch) k.width))
  where
    none : (n v : ℕ) (t : Bool) → v ≡ cond (t && ltb (n / k.pitch) 0) (row_bit p (from + n / k.pitch * row_byte_count k.width) (n % k.pitch)) v
    none n v true = sym (ap (λ (t : Bool). cond t (row_bit p (from + n / k.pitch * row_byte_count k.width) (n % k.pitch)) v) (le-ltb (n / k.pitch) 0 (omega arith)))
    none n v false = refl

-- of any sheet of this width and pitch
pub record Lays (p before : List ℕ) (from width pitch : ℕ) (s : List ℕ) (y : ℕ) : Type 0 where
  pub size : length s ≡ length before
  pub is : (k : Shape) → k.width ≡ width → k.pitch ≡ pitch → s ≡ laid k p from y before

pub lays_none : (p before : List ℕ) (from width pitch : ℕ) → Lays p before from width pitch before 0
lays_none p before from width pitch = record { size = refl; is = λ k e f. laid_none k p from before }

pub lays_one : {p before : List ℕ} {from width pitch : ℕ} {s : List ℕ} {y : ℕ} (after : List ℕ) (count : ℕ) → width ≤ pitch → 1 ≤ width
    → Lays p before from width pitch s y → count ≡ row_byte_count width → after ≡ sets s (y * pitch) (each width (row_bit p (from + y * count)))
    → Lays p before from width pitch after (y + 1)
lays_one {p} {before} {from} {width} {pitch} {s} {y} after count disjoint broad h c e =
    record {
      size = ap length e ∙ length-sets s (y * pitch) (each width (row_bit p (from + y * count))) ∙ h.size;
      is = λ k f g.
          let a : after ≡ sets s (y * k.pitch) (each k.width (row_bit p (from + y * row_byte_count k.width))) = rw (f, g) (e ∙ ap (λ (n : ℕ). sets s (y * pitch) (each width (row_bit p (from + y * n)))) c) in
          a ∙ ap (λ (t : List ℕ). sets t (y * k.pitch) (each k.width (row_bit p (from + y * row_byte_count k.width)))) (h.is k f g)
          ∙ laid_one k p from y (omega arith) (omega arith) before;
    }

-- a row's bytes end within all rows' bytes, and begin below 2^21
pub raster_ends : (height y count : ℕ) → y < height → y * count + count ≤ height * count
raster_ends height y count l = omega (arith, mul-le-mul_right count l)

-- zeros are padded
zeros_at : (n i : ℕ) → ◌≡◌ {A = ℕ} (get_or (replicate n 0) i 0) 0
zeros_at zero i = refl
zeros_at (suc n) zero = refl
zeros_at (suc n) (suc i) = zeros_at n i

pub padded_zeros : (width : ℕ) → Padded width (replicate 4096 0)
padded_zeros width = record { size = length-replicate {A = ℕ} 4096 0; zeros = λ i l. zeros_at 4096 i }
