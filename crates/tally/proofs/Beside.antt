-- A drawing beside a list, from one without: refused for the list, or drawn where the list is right, with rows counted again.
use Prim.Native.Nat.{ℕ, ◌≤◌, ◌<◌}
use mathlib.Core.Path.{◌≡◌, refl, sym, subst, ap, ◌∙◌}
use mathlib.Core.List.{List, []}
use mathlib.Core.Logic.{◌⊎◌}
use mathlib.Core.Bool.{Bool, true, false, cond, true≢false}
use native.Mathlib.Omega.{arith}
use lib.Dec.{eqb}
use lib.ListN.{length, get_or}
use Rattle.std.specs.Prelude.{Result, Ok, Err}
use Rattle.sheet.specs.Repaint.{nothing}
use Rattle.sheet.specs.Reply.{Answer, done, refuse, told, test_answer, with_box, is_done, settled}
use Rattle.sheet.specs.Drawing.{paint_all, box_all, Drawing, Paints, telling, Draws}
use Rattle.sheet.specs.Inner.{fits, Sheet}
use Rattle.sheet.specs.declared.Cell.{Cell}
use Rattle.sheet.specs.declared.Shape.{Shape}
use Rattle.sheet.specs.declared.refusal.Refusal.{Refusal}
use Rattle.sheet.specs.declared.repaint.Rectangle.{Rectangle}
use Rattle.sheet.proofs.Boxes.{box_only}
use Rattle.sheet.proofs.Draws.{keeps, kept, answer_as}
use Rattle.sheet.proofs.Limits.{fits_sheet}
use Rattle.sheet.proofs.Unique.{number_not_0}
use Rattle.fill.specs.Fill.{FillsAs, Fills, FillsRows, fill_drawing}
use Rattle.sheet.specs.declared.Figure.{Figure}
use Rattle.sheet.specs.declared.Figure.TheVariants.{Line, Circle, Ellipse, Curve, Cubic}
use Rattle.survey.specs.Metres.{in_cells}
use Rattle.survey.specs.declared.Survey.{Survey}
use Rattle.survey.specs.declared.Metres.{Metres}
use Rattle.drawing.specs.Figure.{figure_drawing}
use Rattle.drawing.specs.File.{file_form, draw_file_answer}
use Rattle.drawing.specs.Metres.{cells_drawing, metres_drawing}
use Rattle.tally.specs.Tally.{row_count, right, if_tally, recounted, beside, plain}
use Rattle.tally.specs.Inner.{Beside, counted_rows}
use Rattle.tally.proofs.Kept.{right_of}
use Rattle.tally.proofs.Painted.{all_sheet, clear_stays, outside_clear, box_ends}
use Rattle.tally.proofs.Rows.{counted_none, counted_again}
use Rattle.tally.proofs.Tests.{if_tally_lem, done_tally, refused_tally}

-- a sheet, and a list that is right for it
pub record Listed (k : Shape) (lent rows : List ℕ) : Type 0 where
  pub fit : fits k (length lent) ≡ true
  pub places : length rows ≡ k.height
  pub held : right k lent rows ≡ true

-- what `check` has shown that was answered with a refusal, and with none
module _ (k : Shape) (lent rows : List ℕ) where
  pub no_list : (r : Refusal) → told test_answer (Err r) ≡ if_tally k (length lent) lent rows (done []) → (next : Answer) → if_tally k (length lent) lent rows next ≡ refuse r
  no_list r e next = refused_tally k (length lent) lent rows next (ap is_done (sym e) ∙ number_not_0 r) ∙ sym e

  pub is_list : told test_answer (Ok tt) ≡ if_tally k (length lent) lent rows (done []) → Listed k lent rows
  is_list e =
      let p = done_tally k (length lent) lent rows (done []) (ap is_done (sym e)) in
      record { fit = p.0; places = p.1; held = p.2 }

-- a form keeps the number
abbrev pub Keeping : (Answer → Answer) → Type 0
Keeping form = (a : Answer) → (form a).number ≡ a.number

-- a file's answer is in its form already
pub file_form_lem : (k : Shape) (file : List ℕ) (n : ℕ) → file_form (draw_file_answer k file n) ≡ draw_file_answer k file n
unfolding draw_file_answer
file_form_lem k file n = refl

-- refused for its list
module _ (form : Answer → Answer) (same : Keeping form) (d : Drawing) (lent rows : List ℕ) (a : Answer)
    (is : (next : Answer) → if_tally d.shape (length lent) lent rows next ≡ a) (n : is_done a ≡ false) where
  formed : is_done (form a) ≡ false
  formed = ap (λ (m : ℕ). eqb m 0) (same a) ∙ n

  pub list_keeps : Paints (beside form lent rows d) lent (form a) lent
  list_keeps = keeps (beside form lent rows d) lent (form a) formed (ap form (is (d.answer (length lent))))

  pub list_refused : (b : Answer) → b ≡ with_box (form a) nothing → Draws (beside form lent rows d) lent b lent
  list_refused b f = kept (beside form lent rows d) lent (form a) b f formed (ap form (is (d.answer (length lent))))

-- beside a list that is right
module _ (form : Answer → Answer) (d : Drawing) (lent rows : List ℕ) (L : Listed d.shape lent rows)
    (same : form (d.answer (length lent)) ≡ d.answer (length lent)) where
  beside_answer : form (if_tally d.shape (length lent) lent rows (d.answer (length lent))) ≡ d.answer (length lent)
  beside_answer = ap form (if_tally_lem d.shape (length lent) lent rows L.fit L.places L.held (d.answer (length lent))) ∙ same

  boxed : Answer → Answer
  boxed a = with_box a (settled a (box_all d.shape d.figures) nothing)

  pub paints_beside : (b : Answer) (t : List ℕ) → Paints d lent b t → Paints (beside form lent rows d) lent b t
  paints_beside b t h = answer_as d.shape d.figures d.answer (beside form lent rows d).answer lent b t (sym beside_answer) h

  pub paints_without : (b : Answer) (t : List ℕ) → Paints (beside form lent rows d) lent b t → Paints d lent b t
  paints_without b t h = answer_as d.shape d.figures (beside form lent rows d).answer d.answer lent b t beside_answer h

  pub draws_beside : (b : Answer) (t : List ℕ) → Draws d lent b t → Draws (beside form lent rows d) lent b t
  unfolding boxed
  draws_beside b t h = answer_as d.shape d.figures (telling d).answer (telling (beside form lent rows d)).answer lent b t (ap boxed (sym beside_answer)) h

  pub draws_without : (b : Answer) (t : List ℕ) → Draws (beside form lent rows d) lent b t → Draws d lent b t
  unfolding boxed
  draws_without b t h = answer_as d.shape d.figures (telling (beside form lent rows d)).answer (telling d).answer lent b t (ap boxed beside_answer) h

-- the rows that a drawing tells by its rectangle
pub record Told (d : Drawing) (b : Answer) (top bottom : ℕ) : Type 0 where
  pub first : top ≡ (settled b (box_all d.shape d.figures) nothing).top
  pub past : bottom ≡ (settled b (box_all d.shape d.figures) nothing).bottom

pub box_rows : (d : Drawing) (lent : List ℕ) (b : Answer) (t : List ℕ) → Draws d lent b t → Told (telling d) b b.box.top b.box.bottom
box_rows d lent b t h =
    let e : b.box ≡ settled b (box_all d.shape d.figures) nothing =
    ap (λ (a : Answer). a.box) h.tells ∙ ap (λ (z : Bool). cond z (box_all d.shape d.figures) nothing) (sym (ap is_done h.tells)) in
    record { first = ap (λ (r : Rectangle). r.top) e; past = ap (λ (r : Rectangle). r.bottom) e }

pub fill_rows : {k : Shape} {start : Cell} {boundary ink places : ℕ} {lent : List ℕ} {b : Answer} {top bottom : ℕ} {t : List ℕ}
    → (F : FillsRows k start boundary ink places lent b top bottom t) → Told (fill_drawing k start ink F.fills.territory places) b top bottom
fill_rows {k} {ink = ink} {b = b} F =
    let e = sym (box_only k ink F.fills.territory) in
    record {
      first = F.first ∙ ap (λ (r : Rectangle). (settled b r nothing).top) e;
      past = F.past ∙ ap (λ (r : Rectangle). (settled b r nothing).bottom) e;
    }

-- they are counted again
module _ (d : Drawing) (lent rows : List ℕ) (b : Answer) (t : List ℕ) (h : Paints d lent b t) (L : Listed d.shape lent rows)
    (top bottom : ℕ) (T : Told d b top bottom) where
  still : Sheet d.shape lent
  still = fits_sheet d.shape lent L.fit

  painted : is_done b ≡ true → t ≡ paint_all d.shape d.figures lent
  painted e = h.leaves ∙ simp (sym (ap is_done h.tells) ∙ e)

  left : is_done b ≡ false → t ≡ lent
  left e = h.leaves ∙ simp (sym (ap is_done h.tells) ∙ e)

  pub may_count : Beside d.shape t rows × (bottom ≤ d.shape.height)
  may_count = by (is_done b) refl
    where
      by : (z : Bool) → is_done b ≡ z → Beside d.shape t rows × (bottom ≤ d.shape.height)
      by true e =
          let p : bottom ≡ (box_all d.shape d.figures).bottom = T.past ∙ simp e in (
            record { sheet = subst (Sheet d.shape) (sym (painted e)) (all_sheet d.shape d.figures lent still); places = L.places },
            omega (arith, p, box_ends d.shape d.figures),
          )
      by false e =
          let p : bottom ≡ 0 = T.past ∙ simp e in
          (record { sheet = subst (Sheet d.shape) (sym (left e)) still; places = L.places }, omega (arith, p))

  pub counted_rows_lem : (after : List ℕ) → after ≡ counted_rows d.shape t top bottom rows → after ≡ recounted d.shape b t rows
  counted_rows_lem after c = c ∙ by (is_done b) refl
    where
      same_row : is_done b ≡ true → (y : ℕ) → y < length rows → (y < top) ⊎ (bottom ≤ y) → get_or rows y 0 ≡ row_count d.shape t y
      same_row e y l o =
          let m : y < d.shape.height = omega (arith, L.places) in
          let box = box_all d.shape d.figures in
          let f : top ≡ box.top = T.first ∙ simp e in
          let g : bottom ≡ box.bottom = T.past ∙ simp e in
          let p : (y < box.top) ⊎ (box.bottom ≤ y) = subst (λ (n : ℕ). (y < n) ⊎ (box.bottom ≤ y)) f (subst (λ (n : ℕ). (y < top) ⊎ (n ≤ y)) g o) in
          (right_of d.shape lent rows L.places L.held).numbers y m
          ∙ sym (clear_stays d.shape d.figures lent y still m (outside_clear d.shape d.figures y m p))
          ∙ ap (λ (s : List ℕ). row_count d.shape s y) (sym (painted e))

      by : (z : Bool) → is_done b ≡ z → counted_rows d.shape t top bottom rows ≡ recounted d.shape b t rows
      by true e = counted_again d.shape t rows top bottom (same_row e) ∙ sym (simp e)
      by false e =
          let a : top ≡ 4096 = T.first ∙ simp e in
          let c : bottom ≡ 0 = T.past ∙ simp e in
          counted_none d.shape t rows top bottom (omega arith) ∙ sym (simp e)

-- What each form of a drawing asks: refused by its test, refused by itself, free to count, and done. A drawing's shape may be known by an equation alone.
module _ (form : Answer → Answer) (d : Drawing) (k : Shape) (p : d.shape ≡ k) (lent rows : List ℕ) where
  pub form_refused : Keeping form → (r : Refusal) → told test_answer (Err r) ≡ if_tally k (length lent) lent rows (done []) → (b : Answer)
      → b ≡ with_box (form (refuse r)) nothing → Draws (beside form lent rows d) lent b lent × (rows ≡ recounted k b lent rows)
  form_refused same r e b f =
      let is : (next : Answer) → if_tally d.shape (length lent) lent rows next ≡ refuse r =
      λ next. ap (λ (j : Shape). if_tally j (length lent) lent rows next) p ∙ no_list k lent rows r e next in
      let refused : is_done b ≡ false = ap is_done f ∙ ap (λ (m : ℕ). eqb m 0) (same (refuse r)) ∙ number_not_0 r in
      (list_refused form same d lent rows (refuse r) is (number_not_0 r) b f, sym (simp refused))

  module _ (tested : told test_answer (Ok tt) ≡ if_tally k (length lent) lent rows (done [])) (b : Answer) (t : List ℕ) (h : Draws d lent b t) where
    listed : Listed d.shape lent rows
    listed = subst (λ (j : Shape). Listed j lent rows) (sym p) (is_list k lent rows tested)

    pub form_ready : Beside k t rows × (b.box.bottom ≤ k.height)
    form_ready =
        let z = may_count (telling d) lent rows b t h listed b.box.top b.box.bottom (box_rows d lent b t h) in
        (subst (λ (j : Shape). Beside j t rows) p z.0, subst (λ (j : Shape). b.box.bottom ≤ j.height) p z.1)

    pub form_draws : form (d.answer (length lent)) ≡ d.answer (length lent) → Draws (beside form lent rows d) lent b t
    form_draws same = draws_beside form d lent rows listed same b t h

    pub form_counts : (after : List ℕ) → after ≡ counted_rows k t b.box.top b.box.bottom rows → after ≡ recounted k b t rows
    form_counts after c =
        let f : after ≡ counted_rows d.shape t b.box.top b.box.bottom rows = c ∙ ap (λ (j : Shape). counted_rows j t b.box.top b.box.bottom rows) (sym p) in
        counted_rows_lem (telling d) lent rows b t h listed b.box.top b.box.bottom (box_rows d lent b t h) after f
        ∙ ap (λ (j : Shape). recounted j b t rows) p

    pub form_done : form (d.answer (length lent)) ≡ d.answer (length lent) → (after : List ℕ) → after ≡ counted_rows k t b.box.top b.box.bottom rows
        → Draws (beside form lent rows d) lent b t × (after ≡ recounted k b t rows)
    form_done same after c = (form_draws same, form_counts after c)

-- the shape of a figure's drawing, and of one in metres
pub figure_shape : (k : Shape) (ink : ℕ) (f : Figure) → (figure_drawing k ink f).shape ≡ k
figure_shape k ink (Line a b) = refl
figure_shape k ink (Circle c r) = refl
figure_shape k ink (Ellipse c a b) = refl
figure_shape k ink (Curve p q r s) = refl
figure_shape k ink (Cubic p q r t s) = refl

pub metres_shape : (k : Shape) (ink : ℕ) (s : Survey) (f : Metres) → (metres_drawing k ink s f).shape ≡ k
metres_shape k ink s f = by (in_cells s f)
  where
    by : (i : Result Figure Refusal) → (cells_drawing k ink i).shape ≡ k
    by (Ok g) = figure_shape k ink g
    by (Err r) = refl

-- a fill beside a list, refused for it
pub fill_list_refused : {k : Shape} {start : Cell} {boundary ink places : ℕ} {lent : List ℕ} (rows : List ℕ) (r : Refusal)
    → ((next : Answer) → if_tally k (length lent) lent rows next ≡ refuse r) → FillsAs (beside plain lent rows) k start boundary ink places lent (refuse r) lent
fill_list_refused {k} {start} {boundary} {ink} {places} {lent} rows r is =
    record {
      territory = λ (c : Cell). false;
      decides = λ e. absurd (true≢false (sym e ∙ number_not_0 r));
      draws = list_keeps plain (λ b. refl) (fill_drawing k start ink (λ (c : Cell). false) places) lent rows (refuse r) is (number_not_0 r);
    }

-- and beside one that is right
pub fill_beside : {k : Shape} {start : Cell} {boundary ink places : ℕ} {lent rows : List ℕ} {b : Answer} {t : List ℕ}
    → Listed k lent rows → Fills k start boundary ink places lent b t → FillsAs (beside plain lent rows) k start boundary ink places lent b t
fill_beside {k} {start} {boundary} {ink} {places} {lent} {rows} {b} {t} L F =
    record {
      territory = F.territory;
      decides = F.decides;
      draws = paints_beside plain (fill_drawing k start ink F.territory places) lent rows L refl b t F.draws;
    }
