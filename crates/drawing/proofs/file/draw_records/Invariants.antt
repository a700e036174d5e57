-- `drawing::file::draw_records` meets its contract.
use Prim.Native.Nat.{◌-◌}
use lib.ListN.{length}
use Rattle.drawing.proofs.Records.{DrawsOn}
use Rattle.drawing.proofs.file.draw_records.Given as goal

abbrev pub invariant-loop-record : goal.invariant-loop-record
invariant-loop-record l = DrawsOn l.shape l.file l.initial.sheet l.sheet l.rectangle l.at

abbrev pub decreases-loop-record : goal.decreases-loop-record
decreases-loop-record l = length l.file - l.at
