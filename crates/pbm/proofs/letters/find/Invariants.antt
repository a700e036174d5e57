-- `pbm::letters::find` meets its contract.
use Prim.Native.Nat.{◌≤◌}
use mathlib.Core.Path.{◌≡◌}
use lib.ListN.{drop}
use Rattle.pbm.specs.Header.{letters}
use Rattle.pbm.specs.Inner.{letters_at}
use Rattle.pbm.proofs.letters.find.Given as goal

abbrev pub invariant-loop-at : goal.invariant-loop-at
invariant-loop-at l = (letters l.within (drop l.at l.file) ≡ letters_at l.file l.from) × (l.from ≤ l.at)
