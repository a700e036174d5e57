-- `pbm::header::find_rows` meets its contract.
use Rattle.pbm.proofs.Finding.{is_found, is_not_found}
use Rattle.pbm.proofs.header.find_rows.Goals as goal

pub returns-then-magic-parted : goal.returns-then-magic-parted
returns-then-magic-parted c =
    let a = c.args in
    is_found a.file.now c.find-letter.ensures.stands c.find-figure.ensures.stands c.find-gap.ensures.stands
    c.skip_blanks.ensures c.read_number-across.ensures.value_value c.read_number-across.ensures.stands
    c.skip_blanks-2.ensures c.read_number-down.ensures.value_value c.read_number-down.ensures.stands a.width a.height c.requires
    c.is_at.ensures
    c.is_at-2.ensures
    c.blank_at.ensures
    c.blank_at-2.ensures
    c.blank_at-3.ensures
    c.if-magic-parted.true

pub returns-else-magic-parted : goal.returns-else-magic-parted
returns-else-magic-parted c =
    let a = c.args in
    is_not_found a.file.now c.find-letter.ensures.stands c.find-figure.ensures.stands c.find-gap.ensures.stands
    c.skip_blanks.ensures c.read_number-across.ensures.value_value c.read_number-across.ensures.stands
    c.skip_blanks-2.ensures c.read_number-down.ensures.value_value c.read_number-down.ensures.stands a.width a.height c.requires
    c.is_at.ensures
    c.is_at-2.ensures
    c.blank_at.ensures
    c.blank_at-2.ensures
    c.blank_at-3.ensures
    c.if-magic-parted.false
