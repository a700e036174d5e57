-- `pbm::letters::read_number` meets its contract.
use Prim.Native.Nat.{◌-◌}
use lib.ListN.{length}
use Rattle.pbm.specs.Page.{digit}
use Rattle.pbm.proofs.Standing.{Counts, Skips}
use Rattle.pbm.proofs.letters.read_number.Given as goal

abbrev pub invariant-loop-value : goal.invariant-loop-value
invariant-loop-value l = Skips digit l.file l.from l.end × Counts l.file l.from l.value l.end

abbrev pub decreases-loop-value : goal.decreases-loop-value
decreases-loop-value l = length l.file - l.end
