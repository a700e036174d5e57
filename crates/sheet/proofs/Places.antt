-- Lists changed place by place: the laws of `by_place`.
use Prim.Native.Nat.{ℕ, zero, suc, ◌+◌, ◌-◌, ◌≤◌, ◌<◌}
use mathlib.Core.Path.{◌≡◌, refl, sym, ◌∙◌, ap, ap₂}
use mathlib.Core.List.{List, [], ◌∷◌}
use mathlib.Core.Bool.{Bool, cond, ◌&&◌}
use native.Mathlib.Omega.{arith}
use native.Mathlib.Numerals.{add-one}
use native.Mathlib.Decide.{dec_lt}
use borrow.Author.Tests.{eq-eqb, ne_eqb, le-leb, lt-leb, lt-ltb, le-ltb}
use lib.ListN.{length, get_or, set}
use lib.Seq.{sets, ext_get_or}
use lib.Dec.{eqb, leb, ltb, eqb-zero-suc, eqb-suc-zero, eqb-suc-suc}
use Rattle.laws.specs.Below.{each}
use Rattle.laws.proofs.Each.{put_one}
use Rattle.sheet.specs.Sheet.{by_place}

-- the length is kept
pub length_by : (f : ℕ → ℕ → ℕ) (s : List ℕ) → length (by_place f s) ≡ length s
unfolding by_place
length_by f [] = refl
length_by f (v ∷ s) = ap suc (length_by (λ (n : ℕ). f (suc n)) s)

-- the byte at a place
pub get_or_by : (f : ℕ → ℕ → ℕ) (s : List ℕ) (n : ℕ) → n < length s → get_or (by_place f s) n 0 ≡ f n (get_or s n 0)
unfolding by_place
get_or_by f [] n l = absurd (omega arith)
get_or_by f (v ∷ s) zero l = refl
get_or_by f (v ∷ s) (suc n) l = get_or_by (λ (n : ℕ). f (suc n)) s n (omega arith)

-- a place that is not changed; past the end there is none
pub get_d_kept : (f : ℕ → ℕ → ℕ) (s : List ℕ) (n : ℕ) → ((v : ℕ) → f n v ≡ v) → get_or (by_place f s) n 0 ≡ get_or s n 0
unfolding by_place
get_d_kept f [] n h = refl
get_d_kept f (v ∷ s) zero h = h v
get_d_kept f (v ∷ s) (suc n) h = get_d_kept (λ (n : ℕ). f (suc n)) s n h

-- equal changes at each place
pub by_as : (f g : ℕ → ℕ → ℕ) (s : List ℕ) → ((n v : ℕ) → n < length s → f n v ≡ g n v) → by_place f s ≡ by_place g s
unfolding by_place
by_as f g [] h = refl
by_as f g (v ∷ s) h =
    ap₂ ◌∷◌ (h 0 v (omega arith)) (by_as (λ (n : ℕ). f (suc n)) (λ (n : ℕ). g (suc n)) s (λ n v l. h (suc n) v (omega arith)))

-- changes that come to the same of what stands in each place
pub by_at : (f g : ℕ → ℕ → ℕ) (s : List ℕ) → ((n : ℕ) → n < length s → f n (get_or s n 0) ≡ g n (get_or s n 0)) → by_place f s ≡ by_place g s
by_at f g s h =
    ext_get_or 0 (by_place f s) (by_place g s) (length_by f s ∙ sym (length_by g s))
    (λ n l. let m : n < length s = omega (arith, length_by f s) in get_or_by f s n m ∙ h n m ∙ sym (get_or_by g s n m))

-- no change
pub by_none : (s : List ℕ) → by_place (λ (n v : ℕ). v) s ≡ s
unfolding by_place
by_none [] = refl
by_none (v ∷ s) = ap (λ (t : List ℕ). v ∷ t) (by_none s)

-- one change after another
pub by_then : (f g : ℕ → ℕ → ℕ) (s : List ℕ) → by_place g (by_place f s) ≡ by_place (λ (n v : ℕ). g n (f n v)) s
unfolding by_place
by_then f g [] = refl
by_then f g (v ∷ s) = ap (λ (t : List ℕ). g 0 (f 0 v) ∷ t) (by_then (λ (n : ℕ). f (suc n)) (λ (n : ℕ). g (suc n)) s)

-- a change at one place; a list has no place past its end
pub by_one : (s : List ℕ) (at a : ℕ) → by_place (λ (n v : ℕ). cond (eqb n at) a v) s ≡ set s at a
unfolding by_place
by_one [] at a = refl
by_one (v ∷ s) zero a = ap (λ (t : List ℕ). a ∷ t) (by_as _ (λ (n v : ℕ). v) s (λ n v l. rw eqb-suc-zero) ∙ by_none s)
by_one (v ∷ s) (suc at) a =
    ap₂ ◌∷◌ (rw eqb-zero-suc) (by_as _ (λ (n v : ℕ). cond (eqb n at) a v) s (λ n v l. rw eqb-suc-suc) ∙ by_one s at a)

-- a run of places written one after the other
abbrev inside : ℕ → ℕ → ℕ → Bool
inside at m n = leb at n && ltb n (at + m)

abbrev pub written : ℕ → ℕ → (ℕ → ℕ) → ℕ → ℕ → ℕ
written at m f n v = cond (inside at m n) (f (n - at)) v

written_none : (at : ℕ) (f : ℕ → ℕ) (n v : ℕ) → Dec (n < at) → v ≡ written at 0 f n v
written_none at f n v (yes a) = rw (lt-leb at n a) refl
written_none at f n v (no a) = rw (le-leb at n (omega arith), le-ltb n (at + 0) (omega arith)) refl

written_one : (at m : ℕ) (f : ℕ → ℕ) (n v : ℕ) → Dec (n < at) → Dec (n < at + m) → Dec (at + m < n)
    → cond (eqb n (at + m)) (f m) (written at m f n v) ≡ written at (m + 1) f n v
written_one at m f n v (yes a) b c = rw (ne_eqb n (at + m) (λ e. omega arith), lt-leb at n a) refl
written_one at m f n v (no a) (yes b) c = rw (ne_eqb n (at + m) (λ e. omega arith), le-leb at n (omega arith), lt-ltb n (at + m) b, lt-ltb n (at + (m + 1)) (omega arith)) refl
written_one at m f n v (no a) (no b) (yes c) = rw (ne_eqb n (at + m) (λ e. omega arith), le-leb at n (omega arith), le-ltb n (at + m) (omega arith), le-ltb n (at + (m + 1)) (omega arith)) refl
written_one at m f n v (no a) (no b) (no c) =
    let e : n ≡ at + m = omega arith in
    let d : n - at ≡ m = omega arith in
    rw (eq-eqb n (at + m) e, le-leb at n (omega arith), lt-ltb n (at + (m + 1)) (omega arith), d) refl

pub put_by : (s : List ℕ) (at m : ℕ) (f : ℕ → ℕ) → sets s at (each m f) ≡ by_place (written at m f) s
unfolding each
put_by s at zero f = sym (by_none s) ∙ by_as (λ (n v : ℕ). v) (written at 0 f) s (λ n v l. written_none at f n v (dec_lt n at))
put_by s at (suc m) f =
    ap (λ (k : ℕ). sets s at (each k f)) (sym (add-one m))
    ∙ sym (put_one s at m (f m) f refl)
    ∙ ap (λ (t : List ℕ). set t (at + m) (f m)) (put_by s at m f)
    ∙ sym (by_one (by_place (written at m f) s) (at + m) (f m))
    ∙ by_then (written at m f) (λ (n v : ℕ). cond (eqb n (at + m)) (f m) v) s
    ∙ by_as _ (written at (m + 1) f) s (λ n v l. written_one at m f n v (dec_lt n at) (dec_lt n (at + m)) (dec_lt (at + m) n))
    ∙ ap (λ (k : ℕ). by_place (written at k f) s) (add-one m)

-- a place of the run, and one outside
pub written_in : (at m : ℕ) (f : ℕ → ℕ) (n v : ℕ) → at ≤ n → n < at + m → written at m f n v ≡ f (n - at)
written_in at m f n v l h = rw (le-leb at n l, lt-ltb n (at + m) h) refl

pub written_before : (at m : ℕ) (f : ℕ → ℕ) (n v : ℕ) → n < at → written at m f n v ≡ v
written_before at m f n v l = rw (lt-leb at n l) refl

pub written_after : (at m : ℕ) (f : ℕ → ℕ) (n v : ℕ) → at + m ≤ n → written at m f n v ≡ v
written_after at m f n v l = rw (le-leb at n (omega arith), le-ltb n (at + m) l) refl
