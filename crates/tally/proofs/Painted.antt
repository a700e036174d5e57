-- The numbers of rows after a drawing: a row that no figure has a cell in keeps its number, and so does each outside their rectangle.
use Prim.Native.Nat.{ℕ, ◌≤◌, ◌<◌}
use mathlib.Core.Path.{◌≡◌, refl, ap, ◌∙◌}
use mathlib.Core.List.{List, [], ◌∷◌}
use mathlib.Core.Logic.{◌⊎◌, inl, inr}
use mathlib.Core.Bool.{Bool, false, cond, not}
use native.Mathlib.Omega.{arith}
use lib.Dec.{eqb}
use lib.ListN.{get_or}
use Rattle.laws.proofs.Below.{count_as}
use Rattle.laws.proofs.Tests.{is_false, is_true}
use Rattle.sheet.specs.Sheet.{place, cell_of, paint}
use Rattle.sheet.specs.Repaint.{join, box_of, Holds, Within}
use Rattle.sheet.specs.Drawing.{Inked, paint_all, box_all}
use Rattle.sheet.specs.Inner.{Sheet}
use Rattle.sheet.specs.declared.Shape.{Shape}
use Rattle.sheet.specs.declared.repaint.Rectangle.{Rectangle}
use Rattle.sheet.proofs.Boxes.{box_holds, box_within, within_left, within_right}
use Rattle.sheet.proofs.Cells.{on_sheet_lem, place_below}
use Rattle.sheet.proofs.Limits.{still_sheet}
use Rattle.sheet.proofs.Paint.{paint_cell, paint_length}
use Rattle.tally.specs.Tally.{row_count}
use Rattle.tally.specs.Kept.{Clear, none, also}

-- a sheet that is painted is a sheet
painted_sheet : (k : Shape) (s : List ℕ) (f : Inked) → Sheet k s → Sheet k (paint k f.ink f.figure s)
painted_sheet k s f z = still_sheet k s (paint k f.ink f.figure s) (paint_length k f.ink f.figure s) z

pub all_sheet : (k : Shape) (fs : List Inked) (s : List ℕ) → Sheet k s → Sheet k (paint_all k fs s)
all_sheet k [] s z = z
all_sheet k (f ∷ fs) s z = all_sheet k fs (paint k f.ink f.figure s) (painted_sheet k s f z)

-- one figure, and then all
row_stays : (k : Shape) (s : List ℕ) (f : Inked) (y : ℕ) → Sheet k s → y < k.height → ((x : ℕ) → x < k.width → f.figure (cell_of x y) ≡ false)
    → row_count k (paint k f.ink f.figure s) y ≡ row_count k s y
unfolding row_count
row_stays k s f y z b h =
    count_as k.width _ _ (λ x a.
    ap (λ (v : ℕ). not (eqb v 0))
    (paint_cell k f.ink z.disjoint f.figure s (cell_of x y) (on_sheet_lem k x y a b) (omega (arith, place_below k x y (omega (arith, z.disjoint)) b, z.area))
    ∙ ap (λ (t : Bool). cond t f.ink (get_or s (place k (cell_of x y)) 0)) (h x a)))

pub clear_stays : (k : Shape) (fs : List Inked) (s : List ℕ) (y : ℕ) → Sheet k s → y < k.height → Clear k y fs
    → row_count k (paint_all k fs s) y ≡ row_count k s y
clear_stays k [] s y z b none = refl
clear_stays k (f ∷ fs) s y z b (also _ _ h c) =
    clear_stays k fs (paint k f.ink f.figure s) y (painted_sheet k s f z) b c ∙ row_stays k s f y z b h

-- a row outside the rectangle over the figures
abbrev Outside : Rectangle → ℕ → Type 0
Outside r y = (y < r.top) ⊎ (r.bottom ≤ y)

out_within : (p q : Rectangle) (y : ℕ) → Within p q → Outside q y → Outside p y
out_within p q y w (inl l) = inl (omega (arith, w.2))
out_within p q y w (inr l) = inr (omega (arith, w.3))

apart : (r : Rectangle) (x y : ℕ) → Outside r y → Holds r x y → ⊥
apart r x y (inl l) h = omega (arith, h.2)
apart r x y (inr l) h = omega (arith, h.3)

pub outside_clear : (k : Shape) (fs : List Inked) (y : ℕ) → y < k.height → Outside (box_all k fs) y → Clear k y fs
unfolding box_all
outside_clear k [] y b o = none
outside_clear k (f ∷ fs) y b o =
    let p = box_of k f.figure in
    let q = box_all k fs in
    also f fs
    (λ x a. is_false (f.figure (cell_of x y)) (λ t. apart p x y (out_within p (join p q) y (within_left p q) o) (box_holds k f.figure x y (record { column = a; row = b; marked = is_true _ t }))))
    (outside_clear k fs y b (out_within q (join p q) y (within_right p q) o))

-- the rectangle ends with the sheet
pub box_ends : (k : Shape) (fs : List Inked) → (box_all k fs).bottom ≤ k.height
unfolding box_all join
box_ends k [] = omega arith
box_ends k (f ∷ fs) =
    let w = box_within k f.figure (record { left = 0; top = 0; right = k.width; bottom = k.height }) (record { left_low = omega arith; top_low = omega arith }) (λ x y m. (omega arith, m.column, omega arith, m.row)) in
    omega (arith, w.3, box_ends k fs)
