-- One agreed boundary, drawn from either end and in any order, has the same answers and leaves the same bytes.
use Prim.Native.Nat.{ℕ}
use mathlib.Core.Path.{◌≡◌, refl, sym, subst, ap, ap₂, ◌∙◌}
use mathlib.Core.List.{List, [], ◌∷◌, map}
use native.Mathlib.Omega.{arith}
use mathlib.Core.Logic.{inl, inr}
use mathlib.Core.Bool.{Bool, true, false, cond, ◌||◌, and_comm}
use lib.Dec.{T}
use lib.IntN.{ℤ, pos}
use lib.Ieee.{Float}
use lib.ListN.{length}
use Rattle.std.specs.Prelude.{Result, Ok, Err}
use Rattle.laws.proofs.Tests.{or_l, or_r, or_e, same}
use Rattle.sheet.specs.Sheet.{within_limits, cell, cell_of, paint, cells_on}
use Rattle.sheet.specs.Repaint.{nothing, join, box_of}
use Rattle.sheet.specs.Reply.{Answer, done, is_done, with_box, unless, settled}
use Rattle.sheet.specs.Drawing.{only, paint_all, box_all, if_sheet, Draws}
use Rattle.sheet.specs.declared.Cell.{Cell}
use Rattle.sheet.specs.declared.Shape.{Shape}
use Rattle.sheet.specs.declared.Figure.{Figure}
use Rattle.sheet.specs.declared.refusal.Refusal.{Refusal}
use Rattle.sheet.specs.declared.refusal.Refusal.TheVariants.{Coordinate}
use Rattle.sheet.specs.declared.refusal.Refusal.TheVariants as refusal
use Rattle.sheet.specs.declared.repaint.Rectangle.{Rectangle}
use Rattle.sheet.proofs.Boxes.{box_as, box_none, box_then}
use Rattle.sheet.proofs.Lent.{sheet_done}
use Rattle.sheet.proofs.Paint.{paint_as, paint_none, paint_then}
use Rattle.line.specs.Rule.{on_line}
use Rattle.line.specs.Draw.{line_answer, line_drawing}
use Rattle.line.proofs.OnLine.{on_line_either}
use Rattle.curve.proofs.Reversed.{on_curve_either}
use Rattle.survey.specs.Cell.{found_cell}
use Rattle.survey.specs.Metres.{sound, eastward, northward, line_in_cells, figure_in, in_cells}
use Rattle.survey.specs.declared.Survey.{Survey}
use Rattle.survey.specs.declared.Metres.TheVariants as metres
use Rattle.survey.proofs.Cells.{CellOf, cell_right}
use Rattle.record.specs.File.{Contents, holds, read_all, contents_answer, file_answer}
use Rattle.record.specs.declared.types.Record.{Record}
use Rattle.drawing.specs.Figure.{on_figure}
use Rattle.drawing.specs.File.{records_of, inked, file_form, draw_file_answer, file_drawing}
use Rattle.drawing.specs.Metres.{cells_drawing, metres_drawing}
use Rattle.drawing.specs.Boundary.{SameFigure, Named, AllNamed, SameBoundary, InTurn}

-- One line is one drawing, whichever end is named first.
line_either : (a b : Cell) → on_line a b ≡ on_line b a
line_either a b = λ i c. on_line_either a b c i

pub line_drawing_either : (k : Shape) (ink : ℕ) (a b : Cell) → line_drawing k ink a b ≡ line_drawing k ink b a
unfolding line_answer
line_drawing_either k ink a b =
    λ i. record {
      shape = k;
      answer = λ (n : ℕ). if_sheet k n (unless (and_comm (within_limits a) (within_limits b) i) Coordinate (done (pos (cells_on k (line_either a b i)) ∷ [])));
      figures = only ink (line_either a b i);
    }

-- a float that has no cell is refused with 7
abbrev Missed : Result ℤ Refusal → Type 0
Missed (Ok k) = Unit {0}
Missed (Err r) = r ≡ refusal.NoCell

missed : (q : Float) → Missed (found_cell q)
missed q = by (found_cell q) (cell_right q)
  where
    by : (r : Result ℤ Refusal) → CellOf q r → Missed r
    by (Ok k) c = tt
    by (Err r) c = c.0

-- One line in metres, likewise: its cells are found from either end.
module _ (k : Shape) (ink : ℕ) where
  refused_alike : (e f : Refusal) → e ≡ refusal.NoCell → f ≡ refusal.NoCell → cells_drawing k ink (Err e) ≡ cells_drawing k ink (Err f)
  refused_alike e f p q = ap (λ (r : Refusal). cells_drawing k ink (Err r)) (p ∙ sym q)

  found_either : (p q r s : Result ℤ Refusal) → Missed p → Missed q → Missed r → Missed s
      → cells_drawing k ink (line_in_cells p q r s) ≡ cells_drawing k ink (line_in_cells r s p q)
  found_either (Ok a) (Ok b) (Ok c) (Ok d) l m n o = line_drawing_either k ink (cell a b) (cell c d)
  found_either (Ok a) (Ok b) (Ok c) (Err h) l m n o = refl
  found_either (Ok a) (Ok b) (Err g) s l m n o = refl
  found_either (Ok a) (Err f) (Ok c) (Ok d) l m n o = refl
  found_either (Ok a) (Err f) (Ok c) (Err h) l m n o = refused_alike f h m o
  found_either (Ok a) (Err f) (Err g) s l m n o = refused_alike f g m n
  found_either (Err e) q (Ok c) (Ok d) l m n o = refl
  found_either (Err e) q (Ok c) (Err h) l m n o = refused_alike e h l o
  found_either (Err e) q (Err g) s l m n o = refused_alike e g l n

  pub metres_drawing_either : (s : Survey) (x0 y0 x1 y1 : Float) → metres_drawing k ink s (metres.Line x0 y0 x1 y1) ≡ metres_drawing k ink s (metres.Line x1 y1 x0 y0)
  unfolding in_cells
  metres_drawing_either s x0 y0 x1 y1 = by (sound s)
    where
      by : (t : Bool)
          → cells_drawing k ink (cond t (figure_in s (metres.Line x0 y0 x1 y1)) (Err refusal.Survey))
          ≡ cells_drawing k ink (cond t (figure_in s (metres.Line x1 y1 x0 y0)) (Err refusal.Survey))
      by true = found_either (eastward s x0) (northward s y0) (eastward s x1) (northward s y1) (missed _) (missed _) (missed _) (missed _)
      by false = refl

-- A figure named from its other end has the same cells.
same_figure : (f g : Figure) (c : Cell) → SameFigure f g → on_figure f c ≡ on_figure g c
same_figure _ _ c (SameFigure.alike f) = refl
same_figure _ _ c (SameFigure.line a b) = on_line_either a b c
same_figure _ _ c (SameFigure.curve p q r s) = on_curve_either (p ∷ q ∷ r ∷ []) s c (omega arith)
same_figure _ _ c (SameFigure.cubic p q r t s) = on_curve_either (p ∷ q ∷ r ∷ t ∷ []) s c (omega arith)
same_figure _ _ c (SameFigure.circle centre r) = refl
same_figure _ _ c (SameFigure.ellipse centre r) = refl

-- The cells of all records of a list.
on_all : List Record → Cell → Bool
on_all [] c = false
on_all (r ∷ rs) c = on_figure r.figure c || on_all rs c

named_on : (f : Figure) (qs : List Record) (c : Cell) → Named f qs → T (on_figure f c) → T (on_all qs c)
unfolding on_all
named_on f qs c (Named.here q rs s) t = or_l (on_figure q.figure c) (on_all rs c) (subst T (same_figure f q.figure c s) t)
named_on f qs c (Named.later q rs n) t = or_r (on_figure q.figure c) (on_all rs c) (named_on f rs c n t)

all_on : (ink : ℕ) (qs rs : List Record) (c : Cell) → AllNamed ink qs rs → T (on_all rs c) → T (on_all qs c)
unfolding on_all
all_on ink qs rs c AllNamed.none t = absurd t
all_on ink qs rs c (AllNamed.also r rest e n h) t =
    elim (or_e (on_figure r.figure c) (on_all rest c) t) [
      | inl u ↦ named_on r.figure qs c n u
      | inr u ↦ all_on ink qs rest c h u
    ]

module _ (k : Shape) where
  -- the records of a list, painted
  abbrev pub paint_records : List Record → List ℕ → List ℕ
  paint_records rs s = paint_all k (map inked rs) s

  -- in one ink they are painted as one figure
  paint_all_lem : (ink : ℕ) (qs rs : List Record) (s : List ℕ) → AllNamed ink qs rs → paint_records rs s ≡ paint k ink (on_all rs) s
  unfolding on_all
  paint_all_lem ink qs rs s AllNamed.none = sym (paint_none k ink (λ (c : Cell). false) s (λ x y a b. refl))
  paint_all_lem ink qs rs s (AllNamed.also r rest e n h) =
      ap (λ (i : ℕ). paint_records rest (paint k i (on_figure r.figure) s)) e
      ∙ paint_all_lem ink qs rest (paint k ink (on_figure r.figure) s) h
      ∙ paint_then k ink (on_figure r.figure) (on_all rest) s

  -- and their rectangle is that of one figure
  abbrev pub box_records : List Record → Rectangle
  box_records rs = box_all k (map inked rs)

  box_records_lem : (rs : List Record) → box_records rs ≡ box_of k (on_all rs)
  unfolding on_all box_all
  box_records_lem [] = sym (box_none k (λ (c : Cell). false) (λ x y a b. refl))
  box_records_lem (r ∷ rs) = ap (join (box_of k (on_figure r.figure))) (box_records_lem rs) ∙ sym (box_then k (on_figure r.figure) (on_all rs))

  -- in any order
  pub same_boundary : (ink : ℕ) (rs qs : List Record) (s : List ℕ) → SameBoundary ink rs qs → paint_records rs s ≡ paint_records qs s
  same_boundary ink rs qs s h =
      paint_all_lem ink qs rs s h.there
      ∙ paint_as k ink (on_all rs) (on_all qs) s (λ x y a b. same _ _ (all_on ink qs rs (cell_of x y) h.there) (all_on ink rs qs (cell_of x y) h.back))
      ∙ sym (paint_all_lem ink rs qs s h.back)

  pub same_boundary_box : (ink : ℕ) (rs qs : List Record) → SameBoundary ink rs qs → box_records rs ≡ box_records qs
  same_boundary_box ink rs qs h =
      box_records_lem rs
      ∙ box_as k (on_all rs) (on_all qs) (λ x y a b. same _ _ (all_on ink qs rs (cell_of x y) h.there) (all_on ink rs qs (cell_of x y) h.back))
      ∙ sym (box_records_lem qs)

  -- in the same order
  pub same_in_turn : (rs qs : List Record) (s : List ℕ) → InTurn rs qs → paint_records rs s ≡ paint_records qs s
  same_in_turn rs qs s InTurn.none = refl
  same_in_turn rs qs s (InTurn.also r q rest more e f h) =
      let p = paint_as k r.ink (on_figure r.figure) (on_figure q.figure) s (λ x y a b. same_figure r.figure q.figure (cell_of x y) f) in
      ap (paint_records rest) (p ∙ ap (λ (i : ℕ). paint k i (on_figure q.figure) s) e)
      ∙ same_in_turn rest more (paint k q.ink (on_figure q.figure) s) h

  pub same_in_turn_box : (rs qs : List Record) → InTurn rs qs → box_records rs ≡ box_records qs
  unfolding box_all
  same_in_turn_box rs qs InTurn.none = refl
  same_in_turn_box rs qs (InTurn.also r q rest more e f h) =
      ap₂ join (box_as k (on_figure r.figure) (on_figure q.figure) (λ x y a b. same_figure r.figure q.figure (cell_of x y) f)) (same_in_turn_box rest more h)

  -- what a file of which no record is refused tells and leaves
  module _ (file lent : List ℕ) (rs : List Record) (e : read_all file ≡ holds rs) (a : Answer) (s : List ℕ) (h : Draws (file_drawing k file) lent a s) where
    told_by : with_box a nothing ≡ file_form (if_sheet k (length lent) (done (pos (length rs) ∷ [])))
    unfolding draw_file_answer file_answer
    told_by = ap (λ (a : Answer). with_box a nothing) h.tells ∙ ap (λ (c : Contents). file_form (if_sheet k (length lent) (contents_answer c))) e

    done_by : is_done a ≡ is_done (if_sheet k (length lent) (done []))
    done_by = ap is_done told_by ∙ sheet_done k (length lent) (pos (length rs) ∷ []) []

    boxed_by : a.box ≡ settled (if_sheet k (length lent) (done [])) (box_records rs) nothing
    unfolding draw_file_answer file_answer
    boxed_by =
        ap (λ (a : Answer). a.box) h.tells
        ∙ (λ i. settled (file_form (if_sheet k (length lent) (contents_answer (e i)))) (box_records (records_of (e i))) nothing)
        ∙ ap (λ (t : Bool). cond t (box_records rs) nothing) (sheet_done k (length lent) (pos (length rs) ∷ []) [])

    left_by : s ≡ settled (if_sheet k (length lent) (done [])) (paint_records rs lent) lent
    unfolding draw_file_answer file_answer
    left_by =
        h.leaves
        ∙ (λ i. settled (file_form (if_sheet k (length lent) (contents_answer (e i)))) (paint_records (records_of (e i)) lent) lent)
        ∙ ap (λ (t : Bool). cond t (paint_records rs lent) lent) (sheet_done k (length lent) (pos (length rs) ∷ []) [])

  -- Two files, none of whose records is refused, on sheets that were alike:
  module _ (file other lent : List ℕ) (rs qs : List Record) (e : read_all file ≡ holds rs) (f : read_all other ≡ holds qs)
      (a b : Answer) (s t : List ℕ) (h : Draws (file_drawing k file) lent a s) (g : Draws (file_drawing k other) lent b t) where
    -- where painting their records comes to the same, the bytes left are the same,
    pub files_left : paint_records rs lent ≡ paint_records qs lent → s ≡ t
    files_left p = left_by file lent rs e a s h ∙ ap (λ (d : List ℕ). settled (if_sheet k (length lent) (done [])) d lent) p ∙ sym (left_by other lent qs f b t g)

    -- with as many records the replies are equal, but for the rectangle,
    pub files_told : length rs ≡ length qs → with_box a nothing ≡ with_box b nothing
    files_told l =
        told_by file lent rs e a s h
        ∙ ap (λ (n : ℕ). file_form (if_sheet k (length lent) (done (pos n ∷ [])))) l
        ∙ sym (told_by other lent qs f b t g)

    -- with any number of them both are done, or neither,
    pub files_done : is_done a ≡ is_done b
    files_done = done_by file lent rs e a s h ∙ sym (done_by other lent qs f b t g)

    -- and the rectangles are equal, where those of their records are.
    pub files_boxed : box_records rs ≡ box_records qs → a.box ≡ b.box
    files_boxed p =
        boxed_by file lent rs e a s h
        ∙ ap (λ (r : Rectangle). settled (if_sheet k (length lent) (done [])) r nothing) p
        ∙ sym (boxed_by other lent qs f b t g)
