-- What a step of the pen by value tells of the lent form.
use Rattle.std.specs.Prelude.{Option, option_map}
use Rattle.sheet.specs.declared.Cell.{Cell}
use Rattle.line.specs.declared.pen.Pen.{Pen}

abbrev pub asked_of : Option (Cell × Pen) → Option Cell
asked_of s = option_map (λ (t : Cell × Pen). t.0) s
