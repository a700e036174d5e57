-- The loop over the points of a curve: what holds after i of them, and that a turn keeps it.
use Rattle.std.proofs.Common.{◌≡◌, ℕ, zero, suc, ◌+◌, ◌^◌, ◌<◌, ◌≤◌, Bool, true, false, ◌||◌, T, ◌⊎◌, List, length, sym, ap, ◌∙◌, subst, inl, inr, add-one, arith, pow_pos}
use mathlib.Core.Bool.{or-false}
use Rattle.laws.specs.Below.{any}
use Rattle.laws.proofs.Below.{any_at, any_more}
use Rattle.laws.proofs.Tests.{is_true, or_l, or_r, or_e, same}
use Rattle.sheet.specs.Sheet.{cell_of, is_cell, paint}
use Rattle.sheet.specs.Repaint.{nothing, box_of}
use Rattle.sheet.specs.Inner.{Sheet, unmoved_cell, inked_at, joined_at}
use Rattle.sheet.specs.declared.Cell.{Cell}
use Rattle.sheet.specs.declared.Shape.{Shape}
use Rattle.sheet.specs.declared.Spot.{Spot}
use Rattle.sheet.specs.declared.repaint.Rectangle.{Rectangle}
use Rattle.sheet.proofs.Boxes.{box_as}
use Rattle.sheet.proofs.Cells.{is_cell→, is_cell_refl}
use Rattle.sheet.proofs.Limits.{still_sheet}
use Rattle.sheet.proofs.Marks.{inked_paints, alone_box}
use Rattle.sheet.proofs.Paint.{paint_as, paint_length}
use Rattle.line.specs.Rule.{on_line}
use Rattle.line.proofs.Touching.{line_first, line_last}
use Rattle.curve.specs.Rule.{point_at, on_curve}
use Rattle.curve.specs.Draw.{all_within_limits}
use Rattle.curve.specs.Inner.{Leads, Adds}
use Rattle.curve.specs.declared.Way.{Way}
use Rattle.curve.proofs.Adding.{or_moved}

-- the first i pieces of a curve
pub first_pieces : List Cell → ℕ → ℕ → Cell → Bool
first_pieces ps s i d = any i (λ (j : ℕ). on_line (point_at ps (2 ^ s) j) (point_at ps (2 ^ s) (j + 1)) d)

-- a way at the first point of a curve that can be drawn
pub record Begun (ps : List Cell) (s : ℕ) (way : Way) : Type 0 where
  pub some : 0 < length ps
  pub few : length ps ≤ 4
  pub inside : all_within_limits ps ≡ true
  pub split : s ≤ 6
  pub leads : Leads ps s 0 way

-- the first point, and the first i pieces
pub drawn_to : List Cell → ℕ → ℕ → Cell → Bool
drawn_to ps s i d = is_cell (point_at ps (2 ^ s) 0) d || first_pieces ps s i d

-- `before` is the sheet on which the first point was drawn
pub record Joining (k : Shape) (ink : ℕ) (ps : List Cell) (s : ℕ) (before sheet : List ℕ) (way : Way) (from : Spot) (r : Rectangle) (i : ℕ) : Type 0 where
  pub low : i ≤ 2 ^ s
  pub leads : Leads ps s i way
  pub from_is : unmoved_cell from ≡ point_at ps (2 ^ s) i
  pub inked : sheet ≡ paint k ink (drawn_to ps s i) before
  pub boxed : r ≡ box_of k (drawn_to ps s i)
  pub sized : Sheet k sheet

-- that the first point was drawn, where the loop begins
pub record Pointed (k : Shape) (ink : ℕ) (ps : List Cell) (s : ℕ) (before sheet : List ℕ) (r : Rectangle) : Type 0 where
  pub inked : sheet ≡ paint k ink (is_cell (point_at ps (2 ^ s) 0)) before
  pub boxed : r ≡ box_of k (is_cell (point_at ps (2 ^ s) 0))
  pub sized : Sheet k sheet

module _ (k : Shape) (ink : ℕ) (ps : List Cell) (s : ℕ) where
  pub points : (before sheet : List ℕ) (p : Spot) (q r : Rectangle) → Sheet k before → unmoved_cell p ≡ point_at ps (2 ^ s) 0
      → sheet ≡ inked_at k ink (unmoved_cell p) before → q ≡ nothing → r ≡ joined_at k (unmoved_cell p) q → Pointed k ink ps s before sheet r
  points before sheet p q r z e f g h =
      let painted = f ∙ inked_paints k ink (unmoved_cell p) before z.disjoint in
      record {
        inked = painted ∙ ap (λ (c : Cell). paint k ink (is_cell c) before) e;
        boxed = alone_box k (unmoved_cell p) q r z.wide z.high g h ∙ ap (λ (c : Cell). box_of k (is_cell c)) e;
        sized = still_sheet k before sheet (ap length painted ∙ paint_length k ink (is_cell (unmoved_cell p)) before) z;
      }

  -- before the first piece
  no_pieces : (d : Cell) → is_cell (point_at ps (2 ^ s) 0) d ≡ drawn_to ps s 0 d
  unfolding drawn_to first_pieces any
  no_pieces d = sym (or-false (is_cell (point_at ps (2 ^ s) 0) d))

  more_pieces : (i : ℕ) (d : Cell) → (drawn_to ps s i d || on_line (point_at ps (2 ^ s) i) (point_at ps (2 ^ s) (i + 1)) d) ≡ drawn_to ps s (i + 1) d
  unfolding drawn_to first_pieces
  more_pieces i d =
      or_moved (is_cell (point_at ps (2 ^ s) 0) d) _ _
      ∙ ap (λ (t : Bool). is_cell (point_at ps (2 ^ s) 0) d || t) (sym (any_more i (λ (j : ℕ). on_line (point_at ps (2 ^ s) j) (point_at ps (2 ^ s) (j + 1)) d)))

  -- the point that the next piece begins at is drawn
  has_point : (i : ℕ) → drawn_to ps s i (point_at ps (2 ^ s) i) ≡ true
  unfolding drawn_to first_pieces any
  has_point zero = is_true _ (or_l (is_cell (point_at ps (2 ^ s) 0) (point_at ps (2 ^ s) 0)) false (is_cell_refl (point_at ps (2 ^ s) 0)))
  has_point (suc i) =
      let line : ℕ → Bool = λ (j : ℕ). on_line (point_at ps (2 ^ s) j) (point_at ps (2 ^ s) (j + 1)) (point_at ps (2 ^ s) (suc i)) in
      let own : T (line i) = subst (λ (n : ℕ). T (on_line (point_at ps (2 ^ s) i) (point_at ps (2 ^ s) n) (point_at ps (2 ^ s) (suc i)))) (sym (add-one i)) (line_last (point_at ps (2 ^ s) i) (point_at ps (2 ^ s) (suc i))) in
      is_true _ (or_r (is_cell (point_at ps (2 ^ s) 0) (point_at ps (2 ^ s) (suc i))) _ (any_at (suc i) line i (omega arith) own))

  -- after the last piece it is the curve, which has the first point
  all_pieces : (d : Cell) → drawn_to ps s (2 ^ s) d ≡ on_curve ps s d
  unfolding drawn_to first_pieces on_curve
  all_pieces d =
      let line : ℕ → Bool = λ (j : ℕ). on_line (point_at ps (2 ^ s) j) (point_at ps (2 ^ s) (j + 1)) d in
      same (is_cell (point_at ps (2 ^ s) 0) d || any (2 ^ s) line) (any (2 ^ s) line)
      (λ t. by (or_e (is_cell (point_at ps (2 ^ s) 0) d) (any (2 ^ s) line) t))
      (λ t. or_r (is_cell (point_at ps (2 ^ s) 0) d) (any (2 ^ s) line) t)
    where
      by : T (is_cell (point_at ps (2 ^ s) 0) d) ⊎ T (any (2 ^ s) (λ (j : ℕ). on_line (point_at ps (2 ^ s) j) (point_at ps (2 ^ s) (j + 1)) d))
          → T (any (2 ^ s) (λ (j : ℕ). on_line (point_at ps (2 ^ s) j) (point_at ps (2 ^ s) (j + 1)) d))
      by (inl t) =
          any_at (2 ^ s) (λ (j : ℕ). on_line (point_at ps (2 ^ s) j) (point_at ps (2 ^ s) (j + 1)) d) 0 (pow_pos s)
          (subst (λ (c : Cell). T (on_line (point_at ps (2 ^ s) 0) (point_at ps (2 ^ s) 1) c)) (sym (is_cell→ (point_at ps (2 ^ s) 0) d t)) (line_first (point_at ps (2 ^ s) 0) (point_at ps (2 ^ s) 1)))
      by (inr t) = t

  pub begins : (before sheet : List ℕ) (way : Way) (from : Spot) (r : Rectangle) (i : ℕ) → i ≡ 0 → Pointed k ink ps s before sheet r → Leads ps s 0 way
      → unmoved_cell from ≡ point_at ps (2 ^ s) 0 → Joining k ink ps s before sheet way from r i
  begins before sheet way from r i z g l e =
      rw z
      record {
        low = omega arith;
        leads = l;
        from_is = e;
        inked = g.inked ∙ paint_as k ink _ _ before (λ x y a b. no_pieces (cell_of x y));
        boxed = g.boxed ∙ box_as k _ _ (λ x y a b. no_pieces (cell_of x y));
        sized = g.sized;
      }

  pub turn : (before sheet t : List ℕ) (way further : Way) (from to : Spot) (q r : Rectangle) (i j : ℕ) → j ≡ i + 1 → Joining k ink ps s before sheet way from q i → i + 1 ≤ 2 ^ s
      → Leads ps s (i + 1) further → unmoved_cell to ≡ point_at ps (2 ^ s) (i + 1)
      → Adds k ink (unmoved_cell from) (on_line (unmoved_cell from) (unmoved_cell to)) sheet t q r
      → Joining k ink ps s before t further to r j
  turn before sheet t way further from to q r i j z g l h e f =
      let line = on_line (unmoved_cell from) (unmoved_cell to) in
      let had : drawn_to ps s i (unmoved_cell from) ≡ true = ap (drawn_to ps s i) g.from_is ∙ has_point i in
      let same : (d : Cell) → (drawn_to ps s i d || line d) ≡ drawn_to ps s (i + 1) d = λ d. (λ j. drawn_to ps s i d || on_line (g.from_is j) (e j) d) ∙ more_pieces i d in
      let added = f.painted (drawn_to ps s i) before had g.inked in
      rw z
      record {
        low = l;
        leads = h;
        from_is = e;
        inked = added ∙ paint_as k ink _ _ before (λ x y a b. same (cell_of x y));
        boxed = f.boxed (drawn_to ps s i) had g.boxed ∙ box_as k _ _ (λ x y a b. same (cell_of x y));
        sized = still_sheet k sheet t (ap length added ∙ paint_length k ink _ before ∙ sym (ap length g.inked ∙ paint_length k ink (drawn_to ps s i) before)) g.sized;
      }

  pub ends : (before sheet : List ℕ) (way : Way) (from : Spot) (r : Rectangle) (i : ℕ) → Joining k ink ps s before sheet way from r i → 2 ^ s ≤ i
      → (sheet ≡ paint k ink (on_curve ps s) before) × (r ≡ box_of k (on_curve ps s))
  ends before sheet way from r i g l =
      let e : i ≡ 2 ^ s = omega (arith, g.low) in (
        g.inked ∙ ap (λ (j : ℕ). paint k ink (drawn_to ps s j) before) e ∙ paint_as k ink _ _ before (λ x y a b. all_pieces (cell_of x y)),
        g.boxed ∙ ap (λ (j : ℕ). box_of k (drawn_to ps s j)) e ∙ box_as k _ _ (λ x y a b. all_pieces (cell_of x y)),
      )
