-- One more read keeps what the loop keeps.
use Rattle.std.proofs.Common.{rules, List, ℕ, sym, subst, take}
use Rattle.std.specs.Io.KnownBytes.{Consumes}
use Rattle.print.proofs.InTurn.{consumes_then, taken}
use Rattle.print.proofs.read_input.Goals as goal

pub loop-count-preserved : goal.loop-count-preserved
loop-count-preserved g c =
    let l = c.loop-count in
    let read = c.in-Ok.ensures.bytes.0 in
    let n = c.in-Ok.more in
    let known = consumes_then (g.R.Read.remaining c.args.reader.now) (g.R.Read.remaining l.reader) (g.R.Read.remaining c.read.new.self) (take l.count l.room) (take n c.read.new.buf) l.invariant.1 read in
    (search rules, subst (λ (bs : List ℕ). Consumes (g.R.Read.remaining c.args.reader.now) (g.R.Read.remaining c.read.new.self) bs) (sym (taken l.count n _ l.room c.read.new.buf l.invariant.0 c.in-Ok.ensures.bound.0)) known)
