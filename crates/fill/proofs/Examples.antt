-- No program that refuses all, always replies the same or fills nothing meets the statement of a fill: on a sheet of one cell, lent as 0,
-- a fill from that cell with the boundary ink 1 and the territory ink 2 leaves 2, and one from the cell beside it is refused.
use Prim.Native.Nat.{ℕ}
use mathlib.Core.Path.{◌≡◌, refl, ap, ◌∙◌}
use mathlib.Core.List.{List, [], ◌∷◌}
use mathlib.Core.Bool.{Bool, true, cond}
use native.Mathlib.Omega.{arith}
use lib.ListN.{get_or}
use Rattle.sheet.specs.Sheet.{on_sheet, place, cell_of}
use Rattle.sheet.specs.Reply.{Answer, is_done}
use Rattle.sheet.specs.Drawing.{if_sheet}
use Rattle.sheet.specs.declared.Cell.{Cell}
use Rattle.sheet.specs.declared.Shape.{Shape}
use Rattle.sheet.proofs.Empty.{Both}
use Rattle.sheet.proofs.Paint.{paint_cell}
use Rattle.fill.specs.Territory.{Open, here}
use Rattle.fill.specs.Fill.{fill_answer, Fills}
use Rattle.fill.proofs.Outcome.{finished}

abbrev small : Shape
small = record { width = 1; height = 1; pitch = 1 }

abbrev origin : Cell
origin = cell_of 0 0

pub fill_both : (territory : Cell → Bool) → Both (λ (a : Cell). fill_answer small a 1 territory 1) origin (cell_of 1 0)
unfolding fill_answer if_sheet on_sheet
fill_both territory = record { done = refl; refused = refl }

-- the cell is open
free : Open small 1 (0 ∷ []) origin
unfolding on_sheet place
free = record { on = refl; other = λ e. omega arith }

pub fill_draws : (a : Answer) → Fills small origin 1 2 1 (0 ∷ []) a (0 ∷ []) → ⊥
unfolding on_sheet place
fill_draws a F =
    let d : is_done a ≡ true = ap is_done F.draws.tells ∙ (fill_both F.territory).done in
    let f = finished F d in
    let e : F.territory origin ≡ true = f.decides.all origin (here free) in
    let z : ◌≡◌ {A = ℕ} 0 2 =
    ap (λ (s : List ℕ). get_or s 0 0) f.leaves
    ∙ paint_cell small 2 (omega arith) F.territory (0 ∷ []) origin refl (omega arith)
    ∙ ap (λ (t : Bool). cond t 2 0) e in
    omega arith
