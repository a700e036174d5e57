-- A word below 65,536 as a signed number.
use Prim.Native.Nat.{ℕ, suc, ◌-◌, ◌≤◌, ◌<◌}
use mathlib.Core.Path.{◌≡◌, refl, sym, ap, ◌∙◌}
use mathlib.Core.Bool.{Bool, true, false}
use native.Mathlib.Omega.{arith}
use borrow.Author.Tests.{lt-ltb, le-ltb, ltb-true, ltb-false}
use lib.Dec.{ltb}
use lib.IntN.{pos, negsuc, ◌-ℤ◌}
use mir.Syntax.{w16}
use mir.Val.{to_z}
use mir.Facts.{to_z-neg}
use Rattle.std.proofs.lemmas.Int.{ints}
use Rattle.record.specs.Layout.{signed}

pub signed_low : (n : ℕ) → n < 32768 → signed n ≡ pos n
unfolding signed
signed_low n h = simp (lt-ltb n 32768 h)

pub signed_high : (n : ℕ) → 32768 ≤ n → signed n ≡ pos n -ℤ pos 65536
unfolding signed
signed_high n h = simp (le-ltb n 32768 h)

-- what the machine reads of a word
pub word_signed : (n : ℕ) → n < 65536 → to_z w16 n ≡ signed n
word_signed n h = by (ltb n 32768) refl
  where
    by : (t : Bool) → ltb n 32768 ≡ t → to_z w16 n ≡ signed n
    by true l =
        let g = ltb-true n 32768 l in
        let e : to_z w16 n ≡ pos n = omega (arith, ints) in
        e ∙ sym (signed_low n g)
    by false l =
        let g = ltb-false n 32768 l in
        let m : n ≡ 65536 - suc (65535 - n) = omega arith in
        let e : pos n -ℤ pos 65536 ≡ negsuc (65535 - n) = omega (arith, ints) in
        ap (to_z w16) m ∙ to_z-neg w16 (65535 - n) (omega arith) ∙ sym e ∙ sym (signed_high n g)
