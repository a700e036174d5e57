-- `pbm::rows::lay` meets its contract.
use mathlib.Core.Path.{◌∙◌}
use Rattle.laws.proofs.Each.{length-each}
use Rattle.pbm.specs.Inner.{byte_of}
use Rattle.pbm.proofs.Bits.{eight_bytes, part_put}
use Rattle.pbm.proofs.rows.lay.Goals as goal

pub returns : goal.returns
returns c =
    let a = c.args in
    part_put a.sheet.now _ _ a.at 8 (length-each 8 (byte_of a.cells)) c.requires (c.copy_from_slice.ensures.after ∙ c.to_le_bytes.ensures ∙ eight_bytes a.cells)
