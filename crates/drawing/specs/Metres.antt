-- Document 01, "Metres": a figure in metres is drawn as the figure in cells.
use Rattle.std.specs.Prelude.{ℕ, [], Result, Ok, Err}
use Rattle.sheet.specs.Reply.{refuse}
use Rattle.sheet.specs.Drawing.{Drawing, if_sheet}
use Rattle.sheet.specs.declared.Shape.{Shape}
use Rattle.sheet.specs.declared.Figure.{Figure}
use Rattle.sheet.specs.declared.refusal.Refusal.{Refusal}
use Rattle.survey.specs.Metres.{in_cells}
use Rattle.survey.specs.declared.Survey.{Survey}
use Rattle.survey.specs.declared.Metres.{Metres}
use Rattle.drawing.specs.Figure.{figure_drawing}

-- the drawing of the figure in cells; or 1, 15, then the refusal that the metres have, and no figure
abbrev pub cells_drawing : Shape → ℕ → Result Figure Refusal → Drawing
cells_drawing k ink (Ok f) = figure_drawing k ink f
cells_drawing k ink (Err r) = record { shape = k; answer = λ n. if_sheet k n (refuse r); figures = [] }

-- 1, 15, 6, then 7 for each field in its written order, then 3, else the drawing in cells
abbrev pub metres_drawing : Shape → ℕ → Survey → Metres → Drawing
metres_drawing k ink s f = cells_drawing k ink (in_cells s f)
