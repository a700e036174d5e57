-- What only the inner functions promise each other.
use Rattle.std.specs.Prelude.{ℕ, Result, Ok, Err}
use Rattle.sheet.specs.Reply.{number}
use Rattle.sheet.specs.declared.refusal.Refusal.{Refusal}

-- the number of a reply, whatever it holds where it is done
abbrev pub reply_number : {A : Type 0} → Result A Refusal → ℕ
reply_number (Ok a) = 0
reply_number (Err r) = number r
