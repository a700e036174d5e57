-- `record::writing::put_cell` meets its contract.
use mathlib.Core.Path.{ap, ◌∙◌}
use mathlib.Core.List.{List}
use Prim.Native.Nat.{ℕ}
use lib.Seq.{sets}
use Rattle.record.specs.Layout.{bytes_of}
use Rattle.record.proofs.Puts.{then, cell_bytes_lem}
use Rattle.record.proofs.writing.put_cell.Goals as goal

pub returns : goal.returns
returns c =
    let a = c.args in
    let spot = c.lift_cell-spot.result in
    then a.buffer.now (bytes_of 2 spot.x) (bytes_of 2 spot.y) a.at c.put_word.ensures c.put_word-2.ensures
    ∙ ap (λ (v : List ℕ). sets a.buffer.now a.at v) (cell_bytes_lem a.cell spot c.lift_cell-spot.ensures c.requires.1)
