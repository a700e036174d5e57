-- Rows with padding: no drawing changes it, and the pitch does not matter to the cells.
use Prim.Native.Nat.{ℕ, ◌/◌, ◌%◌, ◌<◌}
use mathlib.Core.Path.{◌≡◌, refl, sym, subst, subst₂, ap, ap₂, ◌∙◌}
use mathlib.Core.List.{List, [], ◌∷◌}
use mathlib.Core.Bool.{Bool, true, false, cond}
use mathlib.Core.Logic.{◌⊎◌, inl, inr}
use native.Mathlib.Omega.{arith}
use native.Mathlib.Nat.{div-add-mod'}
use lib.Arith.{digits_mod}
use lib.ListN.{length, get_or}
use Rattle.laws.proofs.Products.{lt_or_ge, mul_lt_back}
use Rattle.sheet.specs.Sheet.{bytes, on_sheet, place, cell_of, cell_at, paint}
use Rattle.sheet.specs.Pitch.{Padding, with_pitch, Alike, AnyPitch}
use Rattle.sheet.specs.Repaint.{nothing, join, box_of}
use Rattle.sheet.specs.Reply.{Answer, with_box, is_done, settled}
use Rattle.sheet.specs.Drawing.{Inked, paint_all, box_all, if_sheet, Drawing, Paints, telling, Draws, mark_answer, mark_drawing}
use Rattle.sheet.specs.Inner.{Disjoint, fits, Sheet}
use Rattle.sheet.specs.declared.Cell.{Cell}
use Rattle.sheet.specs.declared.Shape.{Shape}
use Rattle.sheet.specs.declared.repaint.Rectangle.{Rectangle}
use Rattle.sheet.proofs.Cells.{on_sheet_lem, sheet_cell, place_below}
use Rattle.sheet.proofs.Lent.{if_sheet_lem}
use Rattle.sheet.proofs.Limits.{fits_sheet}
use Rattle.sheet.proofs.Paint.{held_padding, paint_length, paint_cell}
use Rattle.sheet.proofs.Places.{get_d_kept}

-- Each byte of a sheet is padding or that of a cell on the sheet, and none is both.
pub padding_or_cell : (k : Shape) (n : ℕ) → n < bytes k → Padding k n ⊎ (on_sheet k (cell_at k n) ≡ true)
unfolding cell_at
padding_or_cell k n l =
    elim (lt_or_ge (n % k.pitch) k.width) [
      | inl c ↦ inr (on_sheet_lem k (n % k.pitch) (n / k.pitch) c (mul_lt_back k.pitch (n / k.pitch) k.height (omega (arith, div-add-mod' n k.pitch))))
      | inr p ↦ inl p
    ]

pub padding_no_cell : (k : Shape) → Disjoint k → (c : Cell) → on_sheet k c ≡ true → Padding k (place k c) → ⊥
unfolding place
padding_no_cell k w c e p =
    let o = sheet_cell k c e in
    let q : Padding k (place k (cell_of o.column o.row)) = subst (λ (d : Cell). Padding k (place k d)) o.is_cell p in
    omega (arith, o.in_width, digits_mod o.row {m = k.pitch} {r = o.column} (omega (arith, o.in_width)))

-- figures one after the other leave padding as it was
paint_padding : (k : Shape) (fs : List Inked) (s : List ℕ) (n : ℕ) → Padding k n → get_or (paint_all k fs s) n 0 ≡ get_or s n 0
unfolding paint
paint_padding k [] s n p = refl
paint_padding k (f ∷ fs) s n p =
    paint_padding k fs (paint k f.ink f.figure s) n p
    ∙ get_d_kept _ s n (λ v. ap (λ (t : Bool). cond t f.ink v) (held_padding k f.figure n p))

-- Padding never changes, whatever is painted.
pub padding_stays : (d : Drawing) (s : List ℕ) (a : Answer) (t : List ℕ) → Paints d s a t → (n : ℕ) → Padding d.shape n → get_or t n 0 ≡ get_or s n 0
padding_stays d s a t h n p = ap (λ (u : List ℕ). get_or u n 0) h.leaves ∙ by (is_done (d.answer (length s)))
  where
    by : (done : Bool) → get_or (cond done (paint_all d.shape d.figures s) s) n 0 ≡ get_or s n 0
    by true = paint_padding d.shape d.figures s n p
    by false = refl

-- a cell of the sheet is one of its bytes
pub cell_below : (k : Shape) (s : List ℕ) → Sheet k s → (c : Cell) → on_sheet k c ≡ true → place k c < length s
cell_below k s z c e =
    let o = sheet_cell k c e in
    let l = place_below k o.column o.row (omega (arith, o.in_width, z.disjoint)) o.in_height in
    rw (o.is_cell, z.area) l

-- each cell of two sheets after one figure
module _ (k : Shape) (pitch : ℕ) (ink : ℕ) (f : Cell → Bool) where
  pub paint_alike : (s t : List ℕ) → Alike k pitch s t → Alike k pitch (paint k ink f s) (paint (with_pitch k pitch) ink f t)
  unfolding fits on_sheet
  paint_alike s t h =
      let y = fits_sheet k s h.one in
      let z = fits_sheet (with_pitch k pitch) t h.other in
      record {
        one = ap (fits k) (paint_length k ink f s) ∙ h.one;
        other = ap (fits (with_pitch k pitch)) (paint_length (with_pitch k pitch) ink f t) ∙ h.other;
        cells = λ c e.
            paint_cell k ink y.disjoint f s c e (cell_below k s y c e)
            ∙ ap (λ (v : ℕ). cond (f c) ink v) (h.cells c e)
            ∙ sym (paint_cell (with_pitch k pitch) ink z.disjoint f t c e (cell_below (with_pitch k pitch) t z c e));
      }

all_alike : (k : Shape) (pitch : ℕ) (fs : List Inked) (s t : List ℕ) → Alike k pitch s t
    → Alike k pitch (paint_all k fs s) (paint_all (with_pitch k pitch) fs t)
all_alike k pitch [] s t h = h
all_alike k pitch (f ∷ fs) s t h = all_alike k pitch fs _ _ (paint_alike k pitch f.ink f.figure s t h)

-- The pitch does not matter to what is painted by an answer that is the same on any two sheets of one width and height ..
module _ (answer : Shape → ℕ → Answer) (figures : List Inked)
    (same : (k : Shape) (pitch n m : ℕ) → fits k n ≡ true → fits (with_pitch k pitch) m ≡ true → answer k n ≡ answer (with_pitch k pitch) m) where
  abbrev drawing_on : Shape → Drawing
  drawing_on k = record { shape = k; answer = answer k; figures = figures }

  pub paints_any_pitch : (k : Shape) (pitch : ℕ) (s t : List ℕ) (a b : Answer) (u v : List ℕ) → Alike k pitch s t
      → Paints (drawing_on k) s a u → Paints (drawing_on (with_pitch k pitch)) t b v → (a ≡ b) × Alike k pitch u v
  unfolding fits
  paints_any_pitch k pitch s t a b u v h g l =
      let e = same k pitch (length s) (length t) h.one h.other in (
        g.tells ∙ e ∙ sym l.tells,
        subst₂ (Alike k pitch) (sym g.leaves) (ap (λ (a : Answer). settled a (paint_all (with_pitch k pitch) figures t) t) e ∙ sym l.leaves)
            (by (is_done (answer k (length s)))),
      )
    where
      by : (done : Bool) → Alike k pitch (cond done (paint_all k figures s) s) (cond done (paint_all (with_pitch k pitch) figures t) t)
      by true = all_alike k pitch figures s t h
      by false = h

-- .. nor to the rectangles,
boxes_pitch : (k : Shape) (pitch : ℕ) (fs : List Inked) → box_all k fs ≡ box_all (with_pitch k pitch) fs
unfolding box_of box_all
boxes_pitch k pitch [] = refl
boxes_pitch k pitch (f ∷ fs) = ap (join (box_of k f.figure)) (boxes_pitch k pitch fs)

-- and so not to the drawing.
module _ (answer : Shape → ℕ → Answer) (figures : List Inked)
    (same : (k : Shape) (pitch n m : ℕ) → fits k n ≡ true → fits (with_pitch k pitch) m ≡ true → answer k n ≡ answer (with_pitch k pitch) m) where
  pub any_pitch : AnyPitch (λ (k : Shape). record { shape = k; answer = answer k; figures = figures })
  any_pitch =
      paints_any_pitch (λ k n. with_box (answer k n) (settled (answer k n) (box_all k figures) nothing)) figures (λ k pitch n m e f.
      ap₂ (λ (a : Answer) (r : Rectangle). with_box a (settled a r nothing)) (same k pitch n m e f) (boxes_pitch k pitch figures))

-- what a drawing told and left on one of two such sheets, it tells on the other, and leaves bytes there that are alike
pub record Carried (draw : Shape → Drawing) (k : Shape) (pitch : ℕ) (s : List ℕ) (b : Answer) (v : List ℕ) : Type 0 where
  pub bytes : List ℕ
  pub drawn : Draws (draw k) s b bytes
  pub alike : Alike k pitch bytes v

pub carried : (draw : Shape → Drawing) → AnyPitch draw → (k : Shape) (pitch : ℕ) (s t : List ℕ) (b : Answer) (v : List ℕ) → Alike k pitch s t
    → Draws (draw (with_pitch k pitch)) t b v → Carried draw k pitch s b v
carried draw any k pitch s t b v h g =
    let d = draw k in
    let u = settled (d.answer (length s)) (paint_all d.shape d.figures s) s in
    let a = (telling d).answer (length s) in
    let one : Draws d s a u = record { tells = refl; leaves = refl } in
    let same = any k pitch s t a b u v h one g in
    record { bytes = u; drawn = subst (λ (a : Answer). Draws d s a u) same.0 one; alike = same.1 }

-- what follows the test of a sheet, on two sheets
pub on_sheets : (k l : Shape) (n m : ℕ) (a b : Answer) → fits k n ≡ true → fits l m ≡ true → a ≡ b → if_sheet k n a ≡ if_sheet l m b
on_sheets k l n m a b e f q = if_sheet_lem k n e a ∙ q ∙ sym (if_sheet_lem l m f b)

-- The pitch does not matter where what follows that test does not look at the sheet.
pub any_sheet : (next : Answer) (figures : List Inked) → AnyPitch (λ (k : Shape). record { shape = k; answer = λ (n : ℕ). if_sheet k n next; figures = figures })
any_sheet next figures = any_pitch (λ k n. if_sheet k n next) figures (λ k pitch n m e f. on_sheets k (with_pitch k pitch) n m next next e f refl)

pub mark_any_pitch : (ink : ℕ) (c : Cell) → AnyPitch (λ (k : Shape). mark_drawing k ink c)
unfolding mark_answer
mark_any_pitch ink c = any_sheet _ _
