-- What is asked before a short line is drawn.
use Rattle.std.proofs.Common.{◌≡◌, ℕ, Bool, true, false, ◌&&◌, ltb, refl, ap, ◌∙◌}
use Rattle.laws.proofs.Tests.{halves}
use Rattle.sheet.specs.Sheet.{on_sheet}
use Rattle.sheet.specs.Inner.{fits}
use Rattle.sheet.specs.declared.Cell.{Cell}
use Rattle.sheet.specs.declared.Shape.{Shape}
use Rattle.line.specs.Rule.{long}
use Rattle.line.specs.Draw.{short_on}

second_fails : (s u : Bool) → (s && false && u) ≡ false
second_fails true u = refl
second_fails false u = refl

third_fails : (s t : Bool) → (s && t && false) ≡ false
third_fails true true = refl
third_fails true false = refl
third_fails false t = refl

second_of : (s t u : Bool) → (s && t && u) ≡ true → t ≡ true
second_of s t u e = (halves s t (halves (s && t) u e).0).1

module _ (k : Shape) (a b : Cell) (n : ℕ) where
  abbrev pub ends : Bool
  ends = on_sheet k a && on_sheet k b

  abbrev pub length : Bool
  length = ltb 0 (long a b) && ltb (long a b) 128

  pub short_sheet : fits k n ≡ false → short_on k a b n ≡ false
  unfolding short_on fits
  short_sheet e = ap (λ (s : Bool). s && ends && length) e

  pub short_ends : ends ≡ false → short_on k a b n ≡ false
  unfolding short_on fits
  short_ends e = ap (λ (t : Bool). fits k n && t && length) e ∙ second_fails (fits k n) length

  pub short_length : length ≡ false → short_on k a b n ≡ false
  unfolding short_on fits
  short_length e = ap (λ (u : Bool). fits k n && ends && u) e ∙ third_fails (fits k n) ends

  pub short_asked : fits k n ≡ true → ends ≡ true → length ≡ true → short_on k a b n ≡ true
  unfolding short_on fits
  short_asked e f g = λ i. e i && f i && g i

  pub short_on_lem : short_on k a b n ≡ true → (on_sheet k a ≡ true) × (on_sheet k b ≡ true)
  unfolding short_on fits
  short_on_lem e = halves (on_sheet k a) (on_sheet k b) (second_of (fits k n) ends length e)
