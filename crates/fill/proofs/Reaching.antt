-- The laws of reaching: between open cells, onward, and the same in both directions.
use Prim.Native.Nat.{ℕ, ◌+◌}
use mathlib.Core.Path.{◌≡◌, ap₂, ◌∙◌}
use mathlib.Core.List.{List}
use mathlib.Core.Bool.{Bool}
use Rattle.laws.proofs.Apart.{apart_sym}
use Rattle.laws.proofs.Tests.{same_true}
use Rattle.sheet.specs.declared.Cell.{Cell}
use Rattle.sheet.specs.declared.Shape.{Shape}
use Rattle.fill.specs.Territory.{Side, Open, Reach, here, step, Territory}

-- Side neighbours are each other's.
pub side_back : (c d : Cell) → Side c d → Side d c
side_back c d e = ap₂ ◌+◌ (apart_sym d.x c.x) (apart_sym d.y c.y) ∙ e

module _ {k : Shape} {b : ℕ} {s : List ℕ} where
  -- A cell that is reached is open, and so is the start of any reach.
  pub reach_open : {a c : Cell} → Reach k b s a c → Open k b s c
  reach_open (here o) = o
  reach_open (step r n o) = o

  pub reach_start : {a c : Cell} → Reach k b s a c → Open k b s a
  reach_start (here o) = o
  reach_start (step r n o) = reach_start r

  -- What is reached from a cell that is reached is reached.
  pub reach_then : {a c d : Cell} → Reach k b s a c → Reach k b s c d → Reach k b s a d
  reach_then r (here o) = r
  reach_then r (step q n o) = step (reach_then r q) n o

  -- Reaching is the same in both directions.
  pub reach_back : {a c : Cell} → Reach k b s a c → Reach k b s c a
  reach_back (here o) = here o
  reach_back (step {c} {d} r n o) = reach_then (step (here o) (side_back c d n) (reach_open r)) (reach_back r)

-- Where the open cells of one sheet are open on another, what is reached on the one is reached on the other.
pub reach_as : {k l : Shape} {b : ℕ} {s t : List ℕ} → ((c : Cell) → Open k b s c → Open l b t c)
    → {a c : Cell} → Reach k b s a c → Reach l b t a c
reach_as h (here o) = here (h _ o)
reach_as h (step r n o) = step (reach_as h r) n (h _ o)

-- Tests that decide one reaching are equal.
pub tests_same : {k l : Shape} {b : ℕ} {s t : List ℕ} {a c : Cell} {f g : Cell → Bool} → Territory k b s a f → Territory l b t c g
    → ((d : Cell) → Reach k b s a d → Reach l b t c d) → ((d : Cell) → Reach l b t c d → Reach k b s a d) → f ≡ g
tests_same {f = f} {g = g} p q there back =
    λ i d. same_true (f d) (g d) (λ e. q.all d (there d (p.only d e))) (λ e. p.all d (back d (q.only d e))) i
