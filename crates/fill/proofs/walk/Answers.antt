-- `fill::walk` meets its contract.
use Rattle.fill.proofs.Walking.{walked_more}
use Rattle.fill.proofs.walk.Goals as goal

pub loop-turn-preserved : goal.loop-turn-preserved
loop-turn-preserved c =
    walked_more c.loop-turn.invariant c.loop-turn-test.true c.requires.ready.sheet.high c.requires.row_lt_height.0 c.strip_at-strip.ensures c.scan-tail.ensures
