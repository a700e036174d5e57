-- The offset that a refusal names is that of a byte of the file, at or after the record's first: a caller may look there.
use Prim.Native.Nat.{ℕ, zero, suc, ◌≤◌, ◌<◌}
use mathlib.Core.Path.{◌≡◌, sym, subst}
use lib.ListN.{length}
use mathlib.Core.List.{List}
use Rattle.sheet.specs.declared.refusal.Refusal.{Refusal}
use Rattle.record.specs.Layout.{table}
use Rattle.record.specs.Reading.{Found, refused, payload_at, read_of, read_at}
use Rattle.record.specs.File.{Contents, holds, refuses, also, onward, read_in, read_from, read_all}
use Rattle.record.specs.declared.types.Record.{Record}
use Rattle.record.specs.declared.types.Read.{Read}
use Rattle.record.specs.declared.types.Read.TheVariants as read
use Rattle.record.proofs.Found.{every, kind_has, found_has}

-- a read that refuses, and a file
abbrev Names : ℕ → ℕ → Read → Type 0
Names at n (read.Record r) = Unit {0}
Names at n read.End = Unit {0}
Names at n (read.Refused q o) = (at ≤ o) × (o < n)

read_names : (s : List ℕ) (at : ℕ) → Names at (length s) (read_at s at)
unfolding read_at
read_names s at =
    let P : Found → Type 0 = λ f. Names at (length s) (read_of f) in
    let no : (r : Refusal) (o : ℕ) → at ≤ o → o < length s → P (refused r o) = λ r o a b. (a, b) in
    found_has s at P no (λ e. tt)
    (λ a b i. kind_has at (length s) P no (payload_at s at) _ i _ (every _ (λ row e m l. tt) table))

pub names_byte : (s : List ℕ) (at : ℕ) (q : Refusal) (o : ℕ) → read.Refused q o ≡ read_at s at → (at ≤ o) × (o < length s)
names_byte s at q o e = subst (Names at (length s)) (sym e) (read_names s at)

module _ (s : List ℕ) where
  abbrev InFile : Contents → Type 0
  InFile (holds rs) = Unit {0}
  InFile (refuses q o) = o < length s

  also_in : (r : Record) (c : Contents) → InFile c → InFile (also r c)
  also_in r (holds rs) h = tt
  also_in r (refuses q o) h = h

  onward_in : (at : ℕ) (rest : ℕ → Contents) (q : Read) → ((next : ℕ) → InFile (rest next)) → Names at (length s) q → InFile (onward rest q)
  onward_in at rest (read.Record r) h w = also_in r (rest r.next) (h r.next)
  onward_in at rest read.End h w = tt
  onward_in at rest (read.Refused q o) h w = w.1

  reads_in : (n at : ℕ) → InFile (read_in n s at)
  unfolding read_in
  reads_in zero at = tt
  reads_in (suc n) at = onward_in at (read_in n s) (read_at s at) (reads_in n) (read_names s at)

  pub file_names_byte : (q : Refusal) (o : ℕ) → read_all s ≡ refuses q o → o < length s
  unfolding read_all read_from
  file_names_byte q o e = subst InFile e (reads_in _ 0)
