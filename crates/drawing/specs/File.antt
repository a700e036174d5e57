-- Document 01, "Record file": a whole file, drawn.
use Rattle.std.specs.Prelude.{ℕ, List, [], ◌∷◌, map, pos}
use Rattle.sheet.specs.Repaint.{nothing}
use Rattle.sheet.specs.Reply.{Answer, value_of}
use Rattle.sheet.specs.Drawing.{Inked, Drawing, if_sheet}
use Rattle.sheet.specs.declared.Shape.{Shape}
use Rattle.record.specs.File.{Contents, holds, refuses, read_all, file_answer}
use Rattle.record.specs.declared.types.Record.{Record}
use Rattle.drawing.specs.Figure.{on_figure}

-- the records, where none is refused
abbrev pub records_of : Contents → List Record
records_of (holds rs) = rs
records_of (refuses q at) = []

-- the figures of records, each in its ink
abbrev pub inked : Record → Inked
inked r = record { ink = r.ink; figure = on_figure r.figure }

abbrev pub figures_in : List ℕ → List Inked
figures_in file = map inked (records_of (read_all file))

-- A file's answer has one value: its number of records, or a refusal's offset, which is 0 for one that speaks of the sheet.
abbrev pub file_form : Answer → Answer
file_form a = record { number = a.number; values = pos (value_of a) ∷ []; box = nothing }

-- the answer of reading the file, on a sheet
unfoldable pub draw_file_answer : Shape → List ℕ → ℕ → Answer
draw_file_answer k file n = file_form (if_sheet k n (file_answer file))

-- The records are drawn in order, later over earlier.
abbrev pub file_drawing : Shape → List ℕ → Drawing
file_drawing k file = record { shape = k; answer = draw_file_answer k file; figures = figures_in file }
