-- `pbm::letters::read_number` meets its contract.
use mathlib.Core.Path.{◌∙◌, sym}
use Rattle.pbm.proofs.Standing.{counts_end, counts_more, skips_end, skips_more}
use Rattle.pbm.proofs.letters.read_number.Goals as goal

pub loop-value-preserved : goal.loop-value-preserved
loop-value-preserved c =
    let l = c.loop-value in
    let e = sym c.digit_at.ensures ∙ c.loop-value-test.true in
    (skips_more l.invariant.0 e c.find-end-in-loop-value.ensures.stands, counts_more l.invariant.0 l.invariant.1 e c.find-end-in-loop-value.ensures.stands c.appended-value.ensures)

pub returns : goal.returns
returns c =
    let l = c.loop-value in
    let e = sym c.digit_at.ensures ∙ c.loop-value-test.false in
    record { value_value = counts_end l.invariant.0 l.invariant.1 e; stands = skips_end l.invariant.0 e }
