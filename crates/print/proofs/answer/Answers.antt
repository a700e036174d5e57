use Rattle.std.proofs.Common.{rules}
use Rattle.print.proofs.Answered.{answered}
use Rattle.print.proofs.answer.Goals as goal

pub returns : goal.returns
returns g c =
    answered (g.R.Read.remaining c.args.reader.now) (g.W.Write.contents c.args.writer.now) (g.W.Write.contents c.write_all.new.self) c.read_input-input.result.whole c.read_input-input.result.count
    c.reply-length.result c.read_input-input.new.room c.reply-length.new.out _ (search rules) c.read_input-input.ensures.holds c.reply-length.ensures.value c.reply-length.ensures.out_after
    c.in_ok-write_all.ensures.bytes
