-- Texts as bytes: a number in decimal digits, and a text over lent bytes.
use Rattle.std.specs.Prelude.{ℕ, zero, suc, ◌+◌, ◌/◌, ◌%◌, List, [], ◌∷◌, ◌++◌, cond, ltb, length, drop}

-- a number below 10 is one digit, any other that of its tenths before that of its ones: at most n digits
unfoldable pub decimal_in : ℕ → ℕ → List ℕ
decimal_in zero v = []
decimal_in (suc n) v = cond (ltb v 10) ((48 + v) ∷ []) (decimal_in n (v / 10) ++ ((48 + v % 10) ∷ []))

-- a number in decimal digits
unfoldable pub decimal : ℕ → List ℕ
decimal v = decimal_in (suc v) v

-- a text written over the beginning of lent bytes
abbrev pub written_over : List ℕ → List ℕ → List ℕ
written_over text before = text ++ drop (length text) before
