-- `record::rescuing::sound_run` meets its contract.
use mathlib.Core.Path.{◌≡◌, sym, subst, ◌∙◌}
use native.Mathlib.Omega.{arith}
use Rattle.record.specs.Reading.{read_at}
use Rattle.record.specs.Inner.{Follow, Ran}
use Rattle.record.specs.declared.types.Read.TheVariants as read
use Rattle.record.proofs.Saving.{ran}
use Rattle.record.proofs.Stands.{stands}
use borrow.Enum.Refused.{opened}
use Rattle.record.proofs.rescuing.sound_run.Goals as goal
use Rattle.record.proofs.rescuing.sound_run.Goals.{In-Record}

pub loop-record-init : goal.loop-record-init
loop-record-init c = Follow.none

pub returns-in_default : goal.returns-in_default
returns-in_default c =
    let loop = c.loop-record in
    subst (Ran _ _ loop.end) (sym c.refusal_of-refusal.ensures)
    (ran _ _ loop.end c.read-answer.result loop.invariant c.read-answer.ensures.value (opened c.in_default.in_default-own.keys2))

-- the record that was read
is_record : (c : In-Record)
    → read.Record c.in-Record.record ≡ read_at c.args.file.now c.loop-record.end
is_record c = sym c.in-Record.is ∙ c.read-answer.ensures.value

pub loop-record-smaller : goal.loop-record-smaller
loop-record-smaller c =
    let p = stands _ _ _ (is_record c) in
    omega arith

pub loop-record-preserved : goal.loop-record-preserved
loop-record-preserved c = Follow.more _ _ c.loop-record.invariant (is_record c)
