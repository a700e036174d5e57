-- Fields: what is read of the bytes of a value is that value, and the bytes of what is read are those that stand there.
use Prim.Native.Nat.{ℕ, zero, suc, ◌+◌, ◌-◌, ◌*◌, ◌/◌, ◌%◌, ◌≤◌, ◌<◌}
use mathlib.Core.Path.{◌≡◌, refl, sym, ap, ap₂, ◌∙◌}
use mathlib.Core.List.{List, [], ◌∷◌, ◌++◌, append_assoc}
use mathlib.Core.Bool.{Bool, true, false}
use native.Mathlib.Nat.{mod-eq_of_lt, mod-add-div, add-mul-mod_self_left, add-mul-div_left}
use native.Mathlib.Omega.{arith}
use borrow.Author.Tests.{ltb-true, ltb-false}
use lib.Dec.{ltb}
use lib.IntN.{ℤ, pos, negsuc, ◌-ℤ◌}
use lib.ListN.{length, get_or, take, drop, length-append}
use lib.Seq.{drop-cons, drop-drop, take-add, get_or-append_seam, get_or-append-add, get_or-take, get_or-drop}
use Rattle.laws.proofs.Ints.{parts, to_≡ℤ}
use Rattle.sheet.specs.Sheet as sheet
use Rattle.sheet.proofs.Limits.{limit_low, limit_high}
use Rattle.record.specs.Layout.{Field, Form, byte, word, signed_word, form, form_width, form_value, word_value_at, signed, unsigned, bytes_of, width, value_at, widths}
use Rattle.record.specs.Reading.{values_from}
use Rattle.record.specs.Writing.{field_bytes, fields_bytes}
use Rattle.record.specs.Again.{Bytes}
use Rattle.record.proofs.Words.{signed_low, signed_high}

-- a word's two bytes make it again, and a word is made of its two bytes
word_back : (n : ℕ) → n < 65536 → n % 256 + 256 * (n / 256 % 256) ≡ n
word_back n h = let e : n / 256 % 256 ≡ n / 256 = mod-eq_of_lt (omega arith) in rw e (mod-add-div n 256)

word_again : (a b : ℕ) → a < 256 → b < 256 → bytes_of 2 (a + 256 * b) ≡ a ∷ b ∷ []
word_again a b h g =
    let low : (a + 256 * b) % 256 ≡ a = add-mul-mod_self_left a 256 b ∙ mod-eq_of_lt h in
    let q : (a + 256 * b) / 256 ≡ a / 256 + b = add-mul-div_left a b (omega arith) in
    let z : a / 256 ≡ 0 = omega arith in
    let high : (a + 256 * b) / 256 % 256 ≡ b = ap (λ (n : ℕ). n % 256) (q ∙ ap (λ (n : ℕ). n + b) z ∙ omega arith) ∙ mod-eq_of_lt g in
    λ i. low i ∷ high i ∷ []

-- a coordinate's word stands for it, and a word is that of the number it stands for
signed_back : (z : ℤ) → sheet.coordinate z ≡ true → (unsigned z < 65536) × (signed (unsigned z) ≡ z)
signed_back (pos n) e = let h = limit_high (pos n) e in (omega arith, signed_low n (omega arith))
signed_back (negsuc n) e =
    let h = limit_low (negsuc n) e in
    (omega arith, signed_high (65536 - suc n) (omega arith) ∙ to_≡ℤ (pos (65536 - suc n) -ℤ pos 65536) (negsuc n) (simp parts (omega arith)))

signed_again : (n : ℕ) → n < 65536 → unsigned (signed n) ≡ n
signed_again n h = by (ltb n 32768) refl
  where
    by : (t : Bool) → ltb n 32768 ≡ t → unsigned (signed n) ≡ n
    by true l = ap unsigned (signed_low n (ltb-true n 32768 l))
    by false l =
        let g = ltb-false n 32768 l in
        let e : pos n -ℤ pos 65536 ≡ negsuc (65535 - n) = to_≡ℤ (pos n -ℤ pos 65536) (negsuc (65535 - n)) (simp parts (omega arith)) in
        ap unsigned (signed_high n g ∙ e) ∙ omega arith

-- What is read where the bytes of a value stand, after some bytes and before others, is the value.
abbrev pub Kept : Form → ℤ → Type 0
Kept g z = (q rest : List ℕ) → form_value g (q ++ (bytes_of (form_width g) (unsigned z) ++ rest)) (length q) ≡ z

word_at : (n : ℕ) → n < 65536 → (q rest : List ℕ) → word_value_at (q ++ (bytes_of 2 n ++ rest)) (length q) ≡ n
word_at n h q rest =
    let low = get_or-append_seam q (n % 256) (n / 256 % 256 ∷ rest) 0 in
    let high = get_or-append-add q (n % 256 ∷ n / 256 % 256 ∷ rest) 1 0 in
    ap₂ (λ (a b : ℕ). a + 256 * b) low high ∙ word_back n h

pub byte_kept : (n : ℕ) → n < 256 → Kept byte (pos n)
byte_kept n h q rest = ap pos (get_or-append_seam q (n % 256) rest 0 ∙ mod-eq_of_lt h)

pub word_kept : (n : ℕ) → n < 65536 → Kept word (pos n)
word_kept n h q rest = ap pos (word_at n h q rest)

pub signed_kept : (z : ℤ) → sheet.coordinate z ≡ true → Kept signed_word z
signed_kept z e q rest = let b = signed_back z e in ap signed (word_at (unsigned z) b.0 q rest) ∙ b.1

-- and of fields that follow each other
abbrev pub AllKept : List Field → List ℤ → Type 0
AllKept [] [] = Unit {0}
AllKept [] (z ∷ v) = ⊥
AllKept (f ∷ fs) [] = ⊥
AllKept (f ∷ fs) (z ∷ v) = Kept (form f) z × AllKept fs v

bytes_length : (w n : ℕ) → length (bytes_of w n) ≡ w
bytes_length zero n = refl
bytes_length (suc w) n = ap suc (bytes_length w (n / 256))

pub fields_length : (fs : List Field) (v : List ℤ) → AllKept fs v → length (fields_bytes fs v) ≡ widths fs
unfolding fields_bytes
fields_length [] [] k = refl
fields_length [] (z ∷ v) k = absurd k
fields_length (f ∷ fs) [] k = absurd k
fields_length (f ∷ fs) (z ∷ v) k =
    length-append (field_bytes f z) (fields_bytes fs v) ∙ ap₂ (λ (m n : ℕ). m + n) (bytes_length (width f) (unsigned z)) (fields_length fs v k.1)

pub values_back : (fs : List Field) (v : List ℤ) → AllKept fs v → (q rest : List ℕ) → values_from fs (q ++ (fields_bytes fs v ++ rest)) (length q) ≡ v
unfolding values_from fields_bytes
values_back [] [] k q rest = refl
values_back [] (z ∷ v) k q rest = absurd k
values_back (f ∷ fs) [] k q rest = absurd k
values_back (f ∷ fs) (z ∷ v) k q rest =
    let here = field_bytes f z in
    let after = fields_bytes fs v ++ rest in
    let a : q ++ ((here ++ fields_bytes fs v) ++ rest) ≡ q ++ (here ++ after) = ap (λ (l : List ℕ). q ++ l) (append_assoc here (fields_bytes fs v) rest) in
    let b : q ++ (here ++ after) ≡ (q ++ here) ++ after = sym (append_assoc q here after) in
    let n : length q + width f ≡ length (q ++ here) = omega (arith, length-append q here, bytes_length (width f) (unsigned z)) in
    let first = ap (λ (l : List ℕ). value_at f l (length q)) a ∙ k.0 q after in
    let others = ap₂ (values_from fs) (a ∙ b) n ∙ values_back fs v k.1 (q ++ here) rest in
    λ i. first i ∷ others i

-- The bytes of what is read at a place are those that stand there.
module _ (p : List ℕ) (bytes : Bytes p) where
  take_two : (k : ℕ) → k + 2 ≤ length p → bytes_of 2 (word_value_at p k) ≡ take 2 (drop k p)
  take_two k h =
      let e : k + 1 ≡ suc k = omega arith in
      let first = ap (take 2) (drop-cons p k 0 (omega arith)) in
      let second = ap (λ (l : List ℕ). get_or p k 0 ∷ take 1 l) (drop-cons p (suc k) 0 (omega arith)) in
      word_again (get_or p k 0) (get_or p (k + 1) 0) (bytes k) (bytes (k + 1)) ∙ ap (λ (j : ℕ). get_or p k 0 ∷ get_or p j 0 ∷ []) e ∙ sym (first ∙ second)

  form_again : (g : Form) (k : ℕ) → k + form_width g ≤ length p → bytes_of (form_width g) (unsigned (form_value g p k)) ≡ take (form_width g) (drop k p)
  form_again byte k h = ap (λ (n : ℕ). n ∷ []) (mod-eq_of_lt (bytes k)) ∙ sym (ap (take 1) (drop-cons p k 0 (omega arith)))
  form_again word k h = take_two k h
  form_again signed_word k h = ap (bytes_of 2) (signed_again (word_value_at p k) (omega (arith, bytes k, bytes (k + 1)))) ∙ take_two k h

  pub fields_again : (fs : List Field) (k : ℕ) → k + widths fs ≤ length p → fields_bytes fs (values_from fs p k) ≡ take (widths fs) (drop k p)
  unfolding fields_bytes values_from
  fields_again [] k h = refl
  fields_again (f ∷ fs) k h =
      let others = fields_again fs (k + width f) (omega arith) ∙ ap (take (widths fs)) (sym (drop-drop (width f) k p)) in
      ap₂ (λ (a b : List ℕ). a ++ b) (form_again (form f) k (omega arith)) others
      ∙ sym (take-add (width f) (widths fs) (drop k p))

-- A part of a file that starts at an offset is read as the file is there.
module _ (s : List ℕ) (o n : ℕ) where
  byte_part : (k : ℕ) → k < n → get_or (take n (drop o s)) k 0 ≡ get_or s (o + k) 0
  byte_part k h = get_or-take n (drop o s) k 0 h ∙ get_or-drop o s k 0

  word_part : (k : ℕ) → k + 2 ≤ n → word_value_at (take n (drop o s)) k ≡ word_value_at s (o + k)
  word_part k h =
      let e : o + (k + 1) ≡ o + k + 1 = omega arith in
      ap₂ (λ (a b : ℕ). a + 256 * b) (byte_part k (omega arith)) (byte_part (k + 1) (omega arith) ∙ ap (λ (j : ℕ). get_or s j 0) e)

  value_part : (g : Form) (k : ℕ) → k + form_width g ≤ n → form_value g (take n (drop o s)) k ≡ form_value g s (o + k)
  value_part byte k h = ap pos (byte_part k (omega arith))
  value_part word k h = ap pos (word_part k h)
  value_part signed_word k h = ap signed (word_part k h)

  pub values_part : (fs : List Field) (k : ℕ) → k + widths fs ≤ n → values_from fs (take n (drop o s)) k ≡ values_from fs s (o + k)
  unfolding values_from
  values_part [] k h = refl
  values_part (f ∷ fs) k h =
      let e : o + (k + width f) ≡ o + k + width f = omega arith in
      let first = value_part (form f) k (omega arith) in
      let others = values_part fs (k + width f) (omega arith) ∙ ap (values_from fs s) e in
      λ i. first i ∷ others i
