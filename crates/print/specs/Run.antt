-- What is read of the bytes that a reader has, and what is then written.
use Rattle.std.specs.Prelude.{ℕ, ◌≡◌, List, length, take, Option, Some, None, ⊤, true, Bool}
use Rattle.std.specs.Io.KnownBytes.{Appends}
use Rattle.print.specs.Text.{reply_of}

-- of known bytes the room holds the first, as many as it takes, where no read failed
abbrev pub Holds : Option (List ℕ) → Bool → ℕ → List ℕ → Type 0
Holds None whole count room = ⊤
Holds (Some xs) whole count room = whole ≡ true → take count room ≡ take (length room) xs

-- of known bytes the reply to all of them is what is added to those known to be written
abbrev pub Answers : Option (List ℕ) → Option (List ℕ) → Option (List ℕ) → Bool → Type 0
Answers None old new whole = ⊤
Answers (Some xs) old new whole = Appends old new (reply_of whole xs)
