-- A file read record by record: the laws that a loop over it needs.
use Prim.Native.Nat.{ℕ, zero, suc, ◌-◌, ◌<◌}
use mathlib.Core.Path.{◌≡◌, refl, sym, ap, ◌∙◌}
use mathlib.Core.List.{List, []}
use mathlib.Core.Logic.{◌⊎◌, inl, inr}
use native.Mathlib.Omega.{arith}
use denote.Enum.Declared.{tag_of, declared}
use lib.ListN.{length}
use Rattle.sheet.specs.declared.refusal.Refusal.{Refusal}
use Rattle.record.specs.Reading.{read_at}
use Rattle.record.specs.File.{Contents, holds, refuses, also, onward, read_in, read_from}
use Rattle.record.specs.declared.types.Record.{Record}
use Rattle.record.specs.declared.types.Read.{Read}
use Rattle.record.specs.declared.types.Read.TheVariants as read
use Rattle.record.specs.contracts.types.Read.{enum}
use Rattle.record.proofs.Stands.{stands}

-- a read that is no record
abbrev pub NoRecord : Read → Type 0
NoRecord q = (tag_of (declared enum) q ≡ 1) ⊎ (tag_of (declared enum) q ≡ 2)

pub never : (r : Record) → NoRecord (read.Record r) → ⊥
never r (inl t) = let z : ◌≡◌ {A = ℕ} 0 1 = t in omega arith
never r (inr t) = let z : ◌≡◌ {A = ℕ} 0 2 = t in omega arith

-- what follows matters only after a record
onward_as : (f g : ℕ → Contents) (q : Read) → ((r : Record) → read.Record r ≡ q → f r.next ≡ g r.next) → onward f q ≡ onward g q
onward_as f g (read.Record r) h = ap (also r) (h r refl)
onward_as f g read.End h = refl
onward_as f g (read.Refused q at) h = refl

-- more reads than bytes are left change nothing
enough : (s : List ℕ) (m n at : ℕ) → length s - at < m → length s - at < n → read_in m s at ≡ read_in n s at
unfolding read_in
enough s zero n at h g = absurd (omega arith)
enough s (suc m) zero at h g = absurd (omega arith)
enough s (suc m) (suc n) at h g =
    onward_as (read_in m s) (read_in n s) (read_at s at) (λ r e. let p = stands s at r e in enough s m n r.next (omega arith) (omega arith))

-- the file from an offset on is what is read there and the file from the next offset on
pub read_on : (s : List ℕ) (at : ℕ) → read_from s at ≡ onward (read_from s) (read_at s at)
unfolding read_from read_in
read_on s at =
    onward_as (read_in (length s - at) s) (read_from s) (read_at s at)
    (λ r e. let p = stands s at r e in enough s (length s - at) (suc (length s - r.next)) r.next (omega arith) (omega arith))

module _ (s : List ℕ) (at : ℕ) where
  pub from_record : (r : Record) → read.Record r ≡ read_at s at → read_from s at ≡ also r (read_from s r.next)
  from_record r e = read_on s at ∙ ap (onward (read_from s)) (sym e)

  pub from_end : read.End ≡ read_at s at → read_from s at ≡ holds []
  from_end e = read_on s at ∙ ap (onward (read_from s)) (sym e)

  pub from_refusal : (q : Refusal) (o : ℕ) → read.Refused q o ≡ read_at s at → read_from s at ≡ refuses q o
  from_refusal q o e = read_on s at ∙ ap (onward (read_from s)) (sym e)
