-- What ends a reading: no byte is left at the end; where it refuses one is and, but for 8, all that the record's length counts.
use Prim.Native.Nat.{ℕ, ◌+◌, ◌≤◌, ◌<◌}
use mathlib.Core.Path.{◌≡◌, refl, sym, subst}
use mathlib.Core.List.{List}
use native.Mathlib.Omega.{arith}
use lib.ListN.{length}
use Rattle.sheet.specs.Reply.{number}
use Rattle.sheet.specs.declared.refusal.Refusal.{Refusal}
use Rattle.record.specs.Layout.{word_value_at, table}
use Rattle.record.specs.Reading.{Found, refused, payload_at, read_of, read_at}
use Rattle.record.specs.declared.types.Read.{Read}
use Rattle.record.specs.declared.types.Read.TheVariants as read
use Rattle.record.proofs.Found.{every, kind_has, found_cases}

-- a refusal at an offset, by its number
pub record Refused (s : List ℕ) (at n : ℕ) : Type 0 where
  pub here : at < length s
  pub whole : (n ≡ 8 → ⊥) → at + 2 + word_value_at s at ≤ length s

module _ (s : List ℕ) (at : ℕ) where
  abbrev IfEnded : Read → Type 0
  IfEnded (read.Record r) = Unit {0}
  IfEnded read.End = length s ≤ at
  IfEnded (read.Refused q o) = Refused s at (number q)

  if_ended : IfEnded (read_at s at)
  unfolding read_at
  if_ended =
      let P : Found → Type 0 = λ f. IfEnded (read_of f) in
      found_cases s at P (λ e. e) (λ a. record { here = a; whole = λ n. absurd (n refl) })
      (λ b. record { here = omega arith; whole = λ n. b })
      (λ a b i.
      let no : (q : Refusal) (o : ℕ) → at ≤ o → o < length s → P (refused q o) = λ q o f g. record { here = omega arith; whole = λ n. b } in
      kind_has at (length s) P no (payload_at s at) _ i _ (every _ (λ row e m l. tt) table))

  pub at_file_end : read.End ≡ read_at s at → length s ≤ at
  at_file_end e = subst IfEnded (sym e) if_ended

  pub at_refusal : (q : Refusal) (o : ℕ) → read.Refused q o ≡ read_at s at → Refused s at (number q)
  at_refusal q o e = subst IfEnded (sym e) if_ended
