-- `record::writing::count_after` meets its contract.
use mathlib.Core.Path.{◌∙◌}
use native.Mathlib.Omega.{arith}
use Rattle.sheet.specs.Reply.{count_answer}
use Rattle.sheet.proofs.Figures.{Sound}
use Rattle.sheet.proofs.Lent.{told_err}
use Rattle.record.proofs.Written.{passed_sound, not_passed, no_room, has_room, writable}
use Rattle.record.proofs.writing.count_after.Goals as goal
use Rattle.record.proofs.writing.count_after.Goals.{After-size_of-size}

pub returns-in_err-check_fields-clause-tells : goal.returns-in_err-check_fields-clause-tells
returns-in_err-check_fields-clause-tells c =
    told_err count_answer _ _ c.from_residual.ensures.1 ∙ not_passed _ _ _ _ c.in_err-check_fields.ensures

-- the figure passed the tests of its fields
sound : (c : After-size_of-size) → Sound c.args.figure
sound c = passed_sound _ c.in_ok-check_fields.ensures

pub returns-then-free-size-clause-tells : goal.returns-then-free-size-clause-tells
returns-then-free-size-clause-tells c =
    no_room _ _ _ (sound (goal.at.returns-then-free-size-clause-tells c).After-size_of-size) _ c.size_of-size.ensures
    (omega arith)

pub returns-clause-tells : goal.returns-clause-tells
returns-clause-tells c =
    has_room _ _ _ (sound (goal.at.returns-clause-tells c).After-size_of-size) _ c.size_of-size.ensures
    (omega arith)

pub returns-clause-writable : goal.returns-clause-writable
returns-clause-writable c =
    writable _ _ _ (sound (goal.at.returns-clause-writable c).After-size_of-size) _ c.size_of-size.ensures
    (omega arith)
