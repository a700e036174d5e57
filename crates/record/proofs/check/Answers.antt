-- `record::check` meets its contract.
use mathlib.Core.Path.{◌≡◌, sym, ap, ◌∙◌}
use native.Mathlib.Omega.{arith}
use Rattle.sheet.specs.Reply.{told_file, count_answer}
use Rattle.record.specs.Reading.{read_at}
use Rattle.record.specs.declared.types.Read.TheVariants as read
use Rattle.record.proofs.Stands.{stands}
use Rattle.record.proofs.Counting.{begins, turn, closes}
use borrow.Enum.Refused.{opened}
use Rattle.record.proofs.check.Goals as goal
use Rattle.record.proofs.check.Goals.{In-Record}

pub loop-record-init : goal.loop-record-init
loop-record-init c = begins c.args.file.now

pub returns-in_default : goal.returns-in_default
returns-in_default c =
    let loop = c.loop-record in
    ap (told_file count_answer) c.closed.ensures ∙ closes _ loop.count loop.at loop.invariant c.read-answer.result c.read-answer.ensures.value (opened c.in_default.in_default-own.keys2)

-- the record that was read
is_record : (c : In-Record)
    → read.Record c.in-Record.record ≡ read_at c.args.file.now c.loop-record.at
is_record c = sym c.in-Record.is ∙ c.read-answer.ensures.value

pub loop-record-smaller : goal.loop-record-smaller
loop-record-smaller c =
    let p = stands _ _ _ (is_record c) in
    omega arith

pub loop-record-preserved : goal.loop-record-preserved
loop-record-preserved c =
    let loop = c.loop-record in
    turn _ loop.count loop.at loop.invariant _ (is_record c)
