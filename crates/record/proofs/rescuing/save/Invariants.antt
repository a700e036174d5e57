-- `record::rescuing::save` meets its contract.
use Prim.Native.Nat.{◌-◌}
use lib.ListN.{length}
use Rattle.record.specs.Rescue.{lent_of}
use Rattle.record.proofs.Saving.{Saving}
use Rattle.record.proofs.rescuing.save.Given as goal

abbrev pub invariant-loop-at : goal.invariant-loop-at
invariant-loop-at l =
    Saving l.file (lent_of l.initial.copy l.initial.offsets l.initial.numbers) (lent_of l.copy l.offsets l.numbers) l.at l.copied l.listed

abbrev pub decreases-loop-at : goal.decreases-loop-at
decreases-loop-at l = length l.file - l.at
