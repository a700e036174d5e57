-- Drawing a figure in metres.
use Prim.Native.Nat.{ℕ}
use mathlib.Core.Path.{◌≡◌, sym, subst, ap, ◌∙◌}
use mathlib.Core.Bool.{true}
use Rattle.std.specs.Prelude.{Result, Ok, Err}
use Rattle.sheet.specs.Reply.{is_done}
use Rattle.sheet.specs.Drawing.{if_sheet}
use Rattle.sheet.specs.Inner.{fits}
use Rattle.sheet.specs.declared.Shape.{Shape}
use Rattle.sheet.specs.declared.Figure.{Figure}
use Rattle.sheet.specs.declared.refusal.Refusal.{Refusal}
use Rattle.sheet.proofs.Lent.{sheet_again}
use Rattle.survey.specs.Metres.{in_cells}
use Rattle.survey.specs.declared.Survey.{Survey}
use Rattle.survey.specs.declared.Metres.{Metres}
use Rattle.survey.proofs.Within.{Within, in_cells_within}
use Rattle.drawing.specs.Metres.{cells_drawing, metres_drawing}
use Rattle.drawing.proofs.Figures.{figure_begins, figure_done}

module _ (k : Shape) (ink : ℕ) where
  -- it begins with the test of the sheet
  pub cells_begin : (i : Result Figure Refusal) (n : ℕ) → (cells_drawing k ink i).answer n ≡ if_sheet k n ((cells_drawing k ink i).answer n)
  cells_begin (Ok f) n = figure_begins k ink f n
  cells_begin (Err r) n = sym (sheet_again k n _)

  -- A figure that the metres do not refuse, with 6, 7 or 3, is drawn on every sheet.
  pub metres_done : (s : Survey) (f : Metres) (g : Figure) (n : ℕ) → fits k n ≡ true → in_cells s f ≡ Ok g
      → is_done ((metres_drawing k ink s f).answer n) ≡ true
  metres_done s f g n e is =
      ap (λ (i : Result Figure Refusal). is_done ((cells_drawing k ink i).answer n)) is
      ∙ figure_done k ink g n e (subst Within is (in_cells_within s f))
