-- `pbm::letters::skip_blanks` meets its contract.
use Prim.Native.Nat.{◌-◌}
use lib.ListN.{length}
use Rattle.pbm.specs.Page.{blank}
use Rattle.pbm.proofs.Standing.{Skips}
use Rattle.pbm.proofs.letters.skip_blanks.Given as goal

abbrev pub invariant-loop-at : goal.invariant-loop-at
invariant-loop-at l = Skips blank l.file l.from l.at

abbrev pub decreases-loop-at : goal.decreases-loop-at
decreases-loop-at l = length l.file - l.at
