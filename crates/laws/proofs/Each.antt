-- What a function gives for each number below n: the laws of `each`.
use Prim.Native.Nat.{ℕ, zero, suc, ◌+◌, ◌<◌}
use mathlib.Core.Path.{◌≡◌, refl, sym, ap, ap₂, ◌∙◌}
use mathlib.Core.List.{List, [], ◌∷◌, ◌++◌, append_assoc, append-nil}
use native.Mathlib.Omega.{arith}
use native.Mathlib.Nat.{add-zero, add-suc}
use native.Mathlib.Numerals.{add-one}
use native.Mathlib.Decide.{dec_lt}
use lib.ListN.{length, get_or, set, length-append}
use lib.Seq.{sets, get_or_at}
use Rattle.laws.specs.Below.{each}
use Rattle.laws.proofs.Written.{sets_append}

pub length-each : (n : ℕ) (f : ℕ → ℕ) → length (each n f) ≡ n
unfolding each
length-each zero f = refl
length-each (suc n) f = omega (arith, length-append (each n f) (f n ∷ []), length-each n f)

-- what stands before a list that is put behind
pub get_or_before : (p q : List ℕ) (i : ℕ) → i < length p → get_or (p ++ q) i 0 ≡ get_or p i 0
get_or_before [] q i l = absurd (omega arith)
get_or_before (v ∷ p) q zero l = refl
get_or_before (v ∷ p) q (suc i) l = get_or_before p q i (omega arith)

last : (n : ℕ) (f : ℕ → ℕ) (i : ℕ) → i < suc n → (i < n → get_or (each n f) i 0 ≡ f i) → Dec (i < n) → get_or (each n f ++ (f n ∷ [])) i 0 ≡ f i
last n f i l h (yes m) = get_or_before (each n f) (f n ∷ []) i (omega (arith, length-each n f)) ∙ h m
last n f i l h (no m) = let e : i ≡ n = omega arith in rw e (get_or_at (each n f) (f n) [] 0 n (length-each n f))

pub get_or-each : (n : ℕ) (f : ℕ → ℕ) (i : ℕ) → i < n → get_or (each n f) i 0 ≡ f i
unfolding each
get_or-each zero f i l = absurd (omega arith)
get_or-each (suc n) f i l = last n f i l (λ m. get_or-each n f i m) (dec_lt i n)

-- equal functions give equal lists
pub each_as : (n : ℕ) (f g : ℕ → ℕ) → ((i : ℕ) → i < n → f i ≡ g i) → each n f ≡ each n g
unfolding each
each_as zero f g h = refl
each_as (suc n) f g h = ap₂ (λ (a : List ℕ) (v : ℕ). a ++ (v ∷ [])) (each_as n f g (λ i l. h i (omega arith))) (h n (omega arith))

-- some, and then others
pub each_plus : (m n : ℕ) (f : ℕ → ℕ) → each (m + n) f ≡ each m f ++ each n (λ (i : ℕ). f (m + i))
unfolding each
each_plus m zero f = ap (λ (k : ℕ). each k f) (add-zero m) ∙ sym (append-nil (each m f))
each_plus m (suc n) f =
    ap (λ (k : ℕ). each k f) (add-suc m n)
    ∙ ap (λ (a : List ℕ). a ++ (f (m + n) ∷ [])) (each_plus m n f)
    ∙ append_assoc (each m f) (each n (λ (i : ℕ). f (m + i))) (f (m + n) ∷ [])

-- written one by one, and a part more
pub put_plus : (s : List ℕ) (at m n : ℕ) (f : ℕ → ℕ) → sets s at (each (m + n) f) ≡ sets (sets s at (each m f)) (at + m) (each n (λ (i : ℕ). f (m + i)))
put_plus s at m n f =
    ap (sets s at) (each_plus m n f)
    ∙ sets_append (each m f) (each n (λ (i : ℕ). f (m + i))) s at
    ∙ ap (λ (k : ℕ). sets (sets s at (each m f)) (at + k) (each n (λ (i : ℕ). f (m + i)))) (length-each m f)

pub put_one : (s : List ℕ) (at m v : ℕ) (f : ℕ → ℕ) → v ≡ f m → set (sets s at (each m f)) (at + m) v ≡ sets s at (each (m + 1) f)
unfolding each
put_one s at m v f e =
    ap (set (sets s at (each m f)) (at + m)) e
    ∙ ap (λ (k : ℕ). set (sets s at (each m f)) (at + k) (f m)) (sym (length-each m f))
    ∙ sym (sets_append (each m f) (f m ∷ []) s at)
    ∙ ap (λ (k : ℕ). sets s at (each k f)) (sym (add-one m))
