-- `drawing::file::draw_records` meets its contract.
use mathlib.Core.Path.{◌≡◌, sym, ap, ◌∙◌}
use native.Mathlib.Omega.{arith}
use borrow.Enum.Refused.{opened}
use Rattle.std.specs.Prelude.{Ok}
use Rattle.record.specs.Reading.{read_at}
use Rattle.record.specs.declared.types.Read.TheVariants as read
use Rattle.record.proofs.Stands.{stands}
use Rattle.drawing.proofs.Records.{begins, turn, closes, not_drawn}
use Rattle.drawing.proofs.file.draw_records.Goals as goal
use Rattle.drawing.proofs.file.draw_records.Goals.{After-from_residual, After-join-rectangle}

pub loop-record-init : goal.loop-record-init
loop-record-init c =
    let a = c.args in
    begins a.shape a.file.now a.sheet.now _ c.requires.file_value c.none-rectangle.ensures

pub returns-in_default : goal.returns-in_default
returns-in_default c =
    let a = c.args in
    let loop = c.loop-record in
    let all_clauses = closes a.shape a.file.now a.sheet.now loop.sheet loop.rectangle loop.at loop.invariant c.read.result c.read.ensures.value (opened c.in_default.in_default-own.keys2) in
    record { sheet_after = all_clauses.0; value = ap Ok all_clauses.1 }

-- the record that was read
is_record : (c : After-join-rectangle)
    → read.Record c.in-Record.record ≡ read_at c.args.file.now c.loop-record.at
is_record c = sym c.in-Record.is ∙ c.read.ensures.value

pub loop-record-smaller : goal.loop-record-smaller
loop-record-smaller c =
    let p = stands _ _ _ (is_record c) in
    omega arith

pub loop-record-preserved : goal.loop-record-preserved
loop-record-preserved c =
    let a = c.args in
    let loop = c.loop-record in
    turn a.shape a.file.now a.sheet.now loop.sheet loop.rectangle loop.at loop.invariant _ _ _ _ (is_record c) c.requires.sheet_value
    c.in_ok-drawn.ensures c.join-rectangle.ensures

-- none is refused
refused : (c : After-from_residual) → ⊥
refused c =
    let a = c.args in
    let loop = c.loop-record in
    not_drawn a.shape a.file.now a.sheet.now loop.sheet loop.rectangle loop.at loop.invariant c.in-Record.record _ _ (sym c.in-Record.is ∙ c.read.ensures.value) c.requires.sheet_value c.in_err-drawn.ensures

pub returns-in_err-drawn-clause-sheet_after : goal.returns-in_err-drawn-clause-sheet_after
returns-in_err-drawn-clause-sheet_after c = absurd (refused c)

pub returns-in_err-drawn-clause-value : goal.returns-in_err-drawn-clause-value
returns-in_err-drawn-clause-value c = absurd (refused c)
