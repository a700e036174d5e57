-- `print::text::reply` meets its contract.
use native.Mathlib.Omega.{arith}
use Rattle.print.specs.Text.{text_of, unreadable, reply_of}
use Rattle.print.proofs.Told.{reply_whole, reply_failed, begins}
use Rattle.laws.proofs.Written.{write_first, write_ends}
use Rattle.print.proofs.text.reply.Goals as goal

pub returns-then-whole : goal.returns-then-whole
returns-then-whole c =
    let a = c.args in
    let all_clauses = begins (reply_of a.whole a.file.now) (text_of a.file.now) a.out.now _ c.text.result
    (reply_whole a.whole a.file.now c.if-whole.true)
    (c.text.ensures.value, c.text.ensures.out_after) in
    record { value = all_clauses.0; out_after = all_clauses.1 }

pub returns-else-whole : goal.returns-else-whole
returns-else-whole c =
    let a = c.args in
    let all_clauses = begins (reply_of a.whole a.file.now) unreadable a.out.now _ c.put_unreadable.result
    (reply_failed a.whole a.file.now c.if-whole.false)
    (write_ends a.out.now unreadable _ c.put_unreadable.result
    (write_first a.out.now unreadable _ c.put_unreadable.result c.put_unreadable.ensures.out_after c.put_unreadable.ensures.value)
    (omega (arith, c.put_unreadable.ensures.value, c.well_formed))) in
    record { value = all_clauses.0; out_after = all_clauses.1 }
