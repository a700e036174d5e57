-- `record::read` meets its contract.
use mathlib.Core.Path.{◌≡◌, ◌∙◌}
use Rattle.record.specs.Layout.{word_value_at}
use Rattle.record.proofs.Frames.{at_end, one_left, too_long, under_2, framed}
use Rattle.record.proofs.Told.{answers}
use Rattle.record.proofs.read.Goals as goal
use Rattle.record.proofs.read.Goals.{After-from-length}

pub returns-then-bytes-at : goal.returns-then-bytes-at
returns-then-bytes-at c =
    let all_clauses = answers _ _ _ (at_end _ _ c.if-bytes-at.true) in
    record { result_value = all_clauses.0; value = all_clauses.1 }

pub returns-then-bytes-at-lt2 : goal.returns-then-bytes-at-lt2
returns-then-bytes-at-lt2 c =
    let all_clauses = answers _ _ _ (one_left _ _ c.if-bytes-at.false c.if-bytes-at-lt2.true) in
    record { result_value = all_clauses.0; value = all_clauses.1 }

-- the length that was read
length_is : (c : After-from-length) → c.from-length.result ≡ word_value_at c.args.file.now c.args.at
length_is c = c.from-length.ensures ∙ c.word_at.ensures

pub returns-then-bytes-at-2 : goal.returns-then-bytes-at-2
returns-then-bytes-at-2 c =
    let w = length_is (goal.at.returns-then-bytes-at-2 c).After-from-length in
    let all_clauses = answers _ _ _ (too_long _ _ _ w c.if-bytes-at.false c.if-bytes-at-lt2.false c.if-bytes-at-2.true) in
    record { result_value = all_clauses.0; value = all_clauses.1 }

pub returns-then-length-lt2 : goal.returns-then-length-lt2
returns-then-length-lt2 c =
    let w = length_is (goal.at.returns-then-length-lt2 c).After-from-length in
    let all_clauses = answers _ _ _ (under_2 _ _ _ w c.if-bytes-at.false c.if-bytes-at-lt2.false c.if-bytes-at-2.false c.if-length-lt2.true) in
    record { result_value = all_clauses.0; value = all_clauses.1 }

pub returns-in-Ok : goal.returns-in-Ok
returns-in-Ok c =
    let w = length_is (goal.at.returns-in-Ok c).After-from-length in
    let all_clauses = answers _ _ _
    (framed _ _ _ w c.if-bytes-at.false c.if-bytes-at-lt2.false _ _ c.if-bytes-at-2.false c.if-length-lt2.false c.word_at-kind.ensures (c.in-Ok.ensures.reads _)) in
    record { result_value = all_clauses.0; value = all_clauses.1 }

pub returns-in-Err : goal.returns-in-Err
returns-in-Err c =
    let w = length_is (goal.at.returns-in-Err c).After-from-length in
    let all_clauses = answers _ _ _
    (framed _ _ _ w c.if-bytes-at.false c.if-bytes-at-lt2.false _ _ c.if-bytes-at-2.false c.if-length-lt2.false c.word_at-kind.ensures (c.in-Err.ensures.reads _)) in
    record { result_value = all_clauses.0; value = all_clauses.1 }
