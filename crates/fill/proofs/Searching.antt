-- A search in a chunk.
use Prim.Native.Nat.{ℕ, ◌+◌, ◌-◌, ◌<◌, ◌≤◌}
use mathlib.Core.Path.{◌≡◌, subst}
use mathlib.Core.List.{List}
use mathlib.Core.Bool.{Bool, not}
use native.Mathlib.Omega.{arith}
use lib.Dec.{eqb}
use lib.ListN.{get_or}
use Rattle.fill.specs.Inner.{Ahead}

-- the first of the i bytes of a chunk that were looked at; 64, if there is none
pub record First (has : Bool) (ink at : ℕ) (s : List ℕ) (i least : ℕ) : Type 0 where
  pub most : least ≤ 64
  pub passed : (n : ℕ) → n < i → n < least → eqb (get_or s (at + n) 0) ink ≡ not has
  pub found : least < 64 → (least < i) × (eqb (get_or s (at + least) 0) ink ≡ has)

module _ {has : Bool} {ink at : ℕ} {s : List ℕ} where
  pub first_ahead : {least : ℕ} → First has ink at s 64 least → Ahead has ink at (at + 64) s (at + least)
  first_ahead F =
      record {
        order = omega arith;
        within = omega (arith, F.most);
        passed = λ n u v.
            let z : at + (n - at) ≡ n = omega arith in
            subst (λ (m : ℕ). eqb (get_or s m 0) ink ≡ not has) z (F.passed (n - at) (omega (arith, F.most)) (omega arith));
        stop = λ u. (F.found (omega arith)).1;
      }
