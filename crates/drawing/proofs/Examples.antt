-- Document 01, "Record file": the empty file is done with 0 records.
use mathlib.Core.Path.{◌≡◌, refl}
use mathlib.Core.Bool.{true}
use mathlib.Core.List.{List, [], ◌∷◌}
use Prim.Native.Nat.{ℕ}
use lib.IntN.{pos}
use Rattle.sheet.specs.Reply.{done}
use Rattle.sheet.specs.Drawing.{paint_all}
use Rattle.sheet.specs.Inner.{fits}
use Rattle.sheet.specs.declared.Shape.{Shape}
use Rattle.sheet.proofs.Lent.{if_sheet_lem}
use Rattle.record.specs.Reading.{found_at, read_at}
use Rattle.record.specs.File.{read_in, read_from, read_all, file_answer}
use Rattle.drawing.specs.File.{figures_in, draw_file_answer}

pub empty_file : (k : Shape) (n : ℕ) → fits k n ≡ true → draw_file_answer k [] n ≡ done (pos 0 ∷ [])
unfolding draw_file_answer file_answer read_all read_from read_in read_at found_at
empty_file k n e = simp (if_sheet_lem k n e)

-- and leaves the sheet as it was
pub empty_picture : (k : Shape) (s : List ℕ) → paint_all k (figures_in []) s ≡ s
unfolding read_all read_from read_in read_at found_at
empty_picture k s = refl
