-- Parts of a text, written in turn: `sets l at p` is the list l with p written from place `at` on.
use Prim.Native.Nat.{ℕ, zero, suc, ◌+◌, ◌*◌, ◌≤◌, ◌<◌}
use mathlib.Core.Path.{◌≡◌, refl, sym, ap, ◌∙◌}
use mathlib.Core.List.{List, ◌++◌}
use native.Mathlib.Omega.{arith}
use native.Mathlib.Numerals.{add-one}
use lib.ListN.{length, length-append}
use lib.Seq.{sets, length-sets}
use Rattle.laws.proofs.Written.{sets_append}
use Rattle.print.specs.Text.{in_turn}

-- the length of n texts of m bytes
pub length-in_turn : (n m : ℕ) (part : ℕ → List ℕ) → ((i : ℕ) → length (part i) ≡ m) → length (in_turn n part) ≡ n * m
unfolding in_turn
length-in_turn zero m part h = omega arith
length-in_turn (suc n) m part h = omega (arith, length-append (in_turn n part) (part n), length-in_turn n m part h, h n)

-- n texts of m bytes are written, at most `most`
pub record Turns (before : List ℕ) (at most m : ℕ) (part : ℕ → List ℕ) (out : List ℕ) (n : ℕ) : Type 0 where
  pub written : out ≡ sets before at (in_turn n part)
  pub kept : length out ≡ length before
  pub within : n ≤ most
  pub each : (i : ℕ) → length (part i) ≡ m

pub turns_begin : (before : List ℕ) (at most m : ℕ) (part : ℕ → List ℕ) → ((i : ℕ) → length (part i) ≡ m) → Turns before at most m part before 0
unfolding in_turn
turns_begin before at most m part h = record { written = refl; kept = refl; within = omega arith; each = h }

-- the next, at its place
pub turns_next : (before : List ℕ) (at most m : ℕ) (part : ℕ → List ℕ) (out : List ℕ) (n : ℕ) → Turns before at most m part out n → n < most
    → (place : ℕ) → place ≡ at + n * m → (after : List ℕ) → after ≡ sets out place (part n) → Turns before at most m part after (n + 1)
unfolding in_turn
turns_next before at most m part out n inv l place e after f =
    let g : place ≡ at + length (in_turn n part) = omega (arith, length-in_turn n m part inv.each) in
    let w : after ≡ sets before at (in_turn n part ++ part n) =
    f ∙ ap (λ (o : List ℕ). sets o place (part n)) inv.written ∙ ap (λ (k : ℕ). sets (sets before at (in_turn n part)) k (part n)) g ∙ sym (sets_append (in_turn n part) (part n) before at) in
    record {
      written = w ∙ ap (λ (k : ℕ). sets before at (in_turn k part)) (sym (add-one n));
      kept = ap length w ∙ length-sets before at (in_turn n part ++ part n);
      within = omega arith;
      each = inv.each;
    }
