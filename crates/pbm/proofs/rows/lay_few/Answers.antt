-- `pbm::rows::lay_few` meets its contract.
use mathlib.Core.Path.{◌∙◌}
use Rattle.laws.proofs.Each.{length-each}
use Rattle.pbm.specs.Inner.{byte_of}
use Rattle.pbm.proofs.Bits.{eight_bytes, few_bytes, part_put}
use Rattle.pbm.proofs.rows.lay_few.Goals as goal

pub returns : goal.returns
returns c =
    let a = c.args in
    let p = c.requires in
    part_put a.sheet.now _ _ a.at a.few (length-each a.few (byte_of a.cells)) p.0
    (c.copy_from_slice.ensures.after ∙ few_bytes a.cells a.few _ p.1 (c.to_le_bytes.ensures ∙ eight_bytes a.cells))
