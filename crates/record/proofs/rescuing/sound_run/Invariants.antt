-- `record::rescuing::sound_run` meets its contract.
use Prim.Native.Nat.{◌-◌}
use lib.ListN.{length}
use Rattle.record.specs.Inner.{Follow}
use Rattle.record.proofs.rescuing.sound_run.Given as goal

abbrev pub invariant-loop-record : goal.invariant-loop-record
invariant-loop-record l = Follow l.file l.from l.end

abbrev pub decreases-loop-record : goal.decreases-loop-record
decreases-loop-record l = length l.file - l.end
