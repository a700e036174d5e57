-- Texts written one after the other: `sets l at p` is the list l with p written from place `at` on.
use Prim.Native.Nat.{ℕ, suc, ◌+◌, ◌-◌, ◌≤◌}
use mathlib.Core.Path.{◌≡◌, sym, ap, ap₂, ◌∙◌}
use mathlib.Core.List.{List, [], ◌∷◌, ◌++◌, append_assoc}
use native.Mathlib.Omega.{arith}
use native.Mathlib.Nat.{add-zero, zero-add}
use lib.ListN.{length, set, take, drop, length-append}
use lib.Seq.{sets, sets-eq, drop-drop}

-- two parts written in turn are one
pub sets_append : (p q l : List ℕ) (at : ℕ) → sets l at (p ++ q) ≡ sets (sets l at p) (at + length p) q
sets_append [] q l at = ap (λ (k : ℕ). sets l k q) (sym (add-zero at))
sets_append (v ∷ p) q l at =
    let e : suc at + length p ≡ at + suc (length p) = omega arith in
    sets_append p q (set l at v) (suc at) ∙ ap (λ (k : ℕ). sets (sets (set l at v) (suc at) p) k q) e

-- a text is written from the start, and the next place is its length
pub record Written (before text out : List ℕ) (next : ℕ) : Type 0 where
  pub bytes : out ≡ sets before 0 text
  pub long : next ≡ length text

pub write_first : (before part after : List ℕ) (end : ℕ) → after ≡ sets before 0 part → end ≡ 0 + length part → Written before part after end
write_first before part after end e f = record { bytes = e; long = omega arith }

-- and then a part more
pub write_next : (before text out : List ℕ) (next : ℕ) → Written before text out next → (part after : List ℕ) (end : ℕ) → after ≡ sets out next part → end ≡ next + length part
    → Written before (text ++ part) after end
write_next before text out next w part after end e f =
    let g : next ≡ 0 + length text = omega (arith, w.long) in
    record {
      bytes = e
          ∙ ap (λ (o : List ℕ). sets o next part) w.bytes
          ∙ ap (λ (k : ℕ). sets (sets before 0 text) k part) g
          ∙ sym (sets_append text part before 0);
      long = omega (arith, length-append text part, w.long);
    }

-- the written text, and the rest as before
pub write_ends : (before text out : List ℕ) (next : ℕ) → Written before text out next → next ≤ length before
    → (next ≡ length text) × (out ≡ text ++ drop (length text) before)
write_ends before text out next w l =
    (w.long, w.bytes ∙ sets-eq text before 0 (omega (arith, w.long)) ∙ ap (λ (k : ℕ). text ++ drop k before) (zero-add (length text)))

-- bytes copied over as many from a place on are put there
pub put_part : (s part m : List ℕ) (at : ℕ) → at + length part ≤ length s → m ≡ part
    → take at s ++ (m ++ drop (at + length part - at) (drop at s)) ≡ sets s at part
put_part s part m at h e =
    let n : at + length part - at ≡ length part = omega arith in
    ap₂ (λ (a : List ℕ) (k : ℕ). take at s ++ (a ++ drop k (drop at s))) e n
    ∙ ap (λ (b : List ℕ). take at s ++ (part ++ b)) (drop-drop (length part) at s)
    ∙ sym (append_assoc (take at s) part (drop (at + length part) s))
    ∙ sym (sets-eq part s at h)
