-- `line::draw::whole_line` meets its contract.
use Rattle.std.proofs.Common.{sym, arith}
use Rattle.line.proofs.Rise.{rise_start}
use Rattle.line.proofs.draw.whole_line.Goals as goal

pub byte_at-at-requires : goal.byte_at-at-requires
byte_at-at-requires c =
    let a = c.args.course.path in
    (omega arith, sym (rise_start a.long a.short), c.requires.on 0 (omega arith) (omega arith))
