-- What a piece of a curve adds to what is drawn, its first point included: all of its line, by the second point alone where the two touch.
use Rattle.std.proofs.Common.{◌≡◌, ℕ, ◌≤◌, Bool, true, false, ◌||◌, List, sym, refl, ap, ◌∙◌}
use mathlib.Core.Bool.{or-false}
use Rattle.laws.proofs.Tests.{from_true}
use Rattle.sheet.specs.Sheet.{on_sheet, cell_of, is_cell, paint}
use Rattle.sheet.specs.Repaint.{join, box_of}
use Rattle.sheet.specs.Inner.{Sheet, unmoved_cell, inked_at, joined_at}
use Rattle.sheet.specs.declared.Cell.{Cell}
use Rattle.sheet.specs.declared.Shape.{Shape}
use Rattle.sheet.specs.declared.Spot.{Spot}
use Rattle.sheet.specs.declared.repaint.Rectangle.{Rectangle}
use Rattle.sheet.proofs.Boxes.{join_assoc, box_low, box_as, box_then}
use Rattle.sheet.proofs.Cells.{is_cell→}
use Rattle.sheet.proofs.Marks.{inked_paints, joined_box}
use Rattle.sheet.proofs.Paint.{paint_as, paint_then}
use Rattle.line.specs.Rule.{long, on_line}
use Rattle.line.proofs.Ended.{line_box}
use Rattle.line.proofs.Touching.{on_touching}
use Rattle.curve.specs.Inner.{Adds}

-- a cell that a figure has adds nothing to it
had : (f : Cell → Bool) (a d : Cell) → f a ≡ true → (f d || is_cell a d) ≡ f d
had f a d e = by (is_cell a d) refl
  where
    by : (t : Bool) → is_cell a d ≡ t → (f d || t) ≡ f d
    by true g = let h : f d ≡ true = ap f (is_cell→ a d (from_true _ g)) ∙ e in simp h
    by false g = or-false (f d)

pub or_moved : (t u v : Bool) → ((t || u) || v) ≡ (t || (u || v))
or_moved true u v = refl
or_moved false u v = refl

-- so where the ends touch, the line adds the second
second : (f : Cell → Bool) (a b d : Cell) → long a b ≤ 1 → f a ≡ true → (f d || is_cell b d) ≡ (f d || on_line a b d)
second f a b d l e =
    ap (λ (t : Bool). t || is_cell b d) (sym (had f a d e))
    ∙ or_moved (f d) (is_cell a d) (is_cell b d)
    ∙ ap (λ (t : Bool). f d || t) (sym (on_touching a b l d))

module _ (k : Shape) (ink : ℕ) (a b : Cell) (s t : List ℕ) (q r : Rectangle) where
  -- the rectangle with the second point in it
  with_second : k.width ≤ 4096 → k.height ≤ 4096 → (f : Cell → Bool) → r ≡ joined_at k b q → q ≡ box_of k f → r ≡ join (box_of k f) (box_of k (is_cell b))
  with_second w h f e g = e ∙ ap (joined_at k b) g ∙ joined_box k b (box_of k f) w h (box_low k f)

  -- the line drawn
  line_added : (f : Cell → Bool) (before : List ℕ) → t ≡ paint k ink (on_line a b) s → s ≡ paint k ink f before
      → t ≡ paint k ink (λ (c : Cell). f c || on_line a b c) before
  line_added f before e g = e ∙ ap (paint k ink (on_line a b)) g ∙ paint_then k ink f (on_line a b) before

  pub near_adds : Sheet k s → long a b ≤ 1 → t ≡ inked_at k ink b s → r ≡ joined_at k b q → Adds k ink a (on_line a b) s t q r
  near_adds z l et er =
      record {
        painted = λ f before e g.
            et
            ∙ inked_paints k ink b s z.disjoint
            ∙ ap (paint k ink (is_cell b)) g
            ∙ paint_then k ink f (is_cell b) before
            ∙ paint_as k ink _ _ before (λ x y u v. second f a b (cell_of x y) l e);
        boxed = λ f e g.
            with_second z.wide z.high f er g
            ∙ sym (box_then k f (is_cell b))
            ∙ box_as k _ _ (λ x y u v. second f a b (cell_of x y) l e);
      }

  pub part_adds : t ≡ paint k ink (on_line a b) s → r ≡ join q (box_of k (on_line a b)) → Adds k ink a (on_line a b) s t q r
  part_adds et er =
      record {
        painted = λ f before e g. line_added f before et g;
        boxed = λ f e g. er ∙ ap (λ (q : Rectangle). join q (box_of k (on_line a b))) g ∙ sym (box_then k f (on_line a b));
      }

-- between two points on the sheet
pub short_adds : (k : Shape) (ink : ℕ) (p p' : Spot) (s t : List ℕ) (q r : Rectangle) → Sheet k s
    → (on_sheet k (unmoved_cell p) ≡ true) × (on_sheet k (unmoved_cell p') ≡ true)
    → t ≡ paint k ink (on_line (unmoved_cell p) (unmoved_cell p')) s → r ≡ joined_at k (unmoved_cell p') q
    → Adds k ink (unmoved_cell p) (on_line (unmoved_cell p) (unmoved_cell p')) s t q r
short_adds k ink p p' s t q r z o et er =
    let a = unmoved_cell p in
    let b = unmoved_cell p' in
    record {
      painted = λ f before e g. line_added k ink a b s t q r f before et g;
      boxed = λ f e g.
          with_second k ink a b s t q r z.wide z.high f er g
          ∙ ap (λ (m : Rectangle). join m (box_of k (is_cell b)))
          (sym (box_as k _ f (λ x y u v. had f a (cell_of x y) e)) ∙ box_then k f (is_cell a))
          ∙ join_assoc (box_of k f) (box_of k (is_cell a)) (box_of k (is_cell b))
          ∙ ap (join (box_of k f)) (sym (line_box k z.wide z.high p p' o.0 o.1))
          ∙ sym (box_then k f (on_line a b));
    }
