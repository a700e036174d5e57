-- The parts of a header, found place by place: what `names` and `rows_of` come to.
use Rattle.std.specs.Prelude.{Some, None}
use Prim.Native.Nat.{ℕ, ◌+◌, ◌≤◌}
use mathlib.Core.Path.{◌≡◌, refl, sym, subst, ap, ap₂, ◌∙◌}
use mathlib.Core.List.{List}
use mathlib.Core.Bool.{Bool, true, false, ◌&&◌, true≢false}
use native.Mathlib.Omega.{arith}
use native.Mathlib.Decide.{dec_le}
use borrow.Author.Tests.{ne_eqb}
use lib.Dec.{eqb, ltb}
use lib.ListN.{length, get_or}
use Rattle.laws.proofs.Tests.{halves}
use Rattle.pbm.specs.Page.{blank, digit, value_after}
use Rattle.pbm.specs.Header.{Letter, first, next, run, past, from_gap, from_width, from_space, from_height, from_last, names, rows_of}
use Rattle.pbm.specs.Inner.{letters_at, Stands, capped, Finds}
use Rattle.pbm.proofs.Standing.{stands_first, stands_next, stands_after, run_ends, capped_low, capped_high, inside}

-- the parts' tests, in the order in which the code puts them together
pub shuffle : (p q b d c e f x y : Bool) → ((p && q && b && d && c && e && f) && x && y) ≡ (((p && q) && ((b && c) && f)) && ((d && x) && (e && y)))
shuffle false q b d c e f x y = refl
shuffle true false b d c e f x y = refl
shuffle true true false d c e f x y = refl
shuffle true true true false false e f x y = refl
shuffle true true true false true e false x y = refl
shuffle true true true false true e true x y = refl
shuffle true true true true false e f x y = refl
shuffle true true true true true false false x y = refl
shuffle true true true true true false true false y = refl
shuffle true true true true true false true true y = refl
shuffle true true true true true true false x y = refl
shuffle true true true true true true true x y = refl

-- whether digits are there and name a side, by the number in its bound: no digits would be 0
side : (ls : List Letter) (v w : ℕ) → 1 ≤ w → w ≤ 4096 → v ≡ capped (value_after 0 (run digit ls)) → (first digit ls && eqb (value_after 0 (run digit ls)) w) ≡ eqb v w
unfolding value_after
side ls v w l h e = by (first digit ls) refl (dec_le (value_after 0 (run digit ls)) 4096)
  where
    by : (t : Bool) → first digit ls ≡ t → Dec (value_after 0 (run digit ls) ≤ 4096) → (t && eqb (value_after 0 (run digit ls)) w) ≡ eqb v w
    by false f d =
        let z : v ≡ 0 = e ∙ ap (λ (ds : List ℕ). capped (value_after 0 ds)) (run_ends digit ls f).0 ∙ capped_low 0 (omega arith) in
        sym (ne_eqb v w (λ g. omega arith))
    by true f (yes m) = ap (λ (n : ℕ). eqb n w) (sym (e ∙ capped_low (value_after 0 (run digit ls)) m))
    by true f (no m) =
        let z : v ≡ 4097 = e ∙ capped_high (value_after 0 (run digit ls)) (omega arith) in
        ne_eqb (value_after 0 (run digit ls)) w (λ g. omega arith) ∙ sym (ne_eqb v w (λ g. omega arith))

stands_as : {s : List ℕ} {ls ms : List Letter} {at : ℕ} → ls ≡ ms → Stands s ls at → Stands s ms at
stands_as {s} {ls} {ms} {at} e h = subst (λ (l : List Letter). Stands s l at) e h

-- a header's places: of its letter, its figure and the first gap, of the width and what follows it, of the height and what follows it
module _ (s : List ℕ) {p q g w e h d v u : ℕ}
    (letter : Stands s (letters_at s 0) p) (figure : Stands s (letters_at s (p + 1)) q) (gap : Stands s (letters_at s (q + 1)) g)
    (across : Stands s (past blank (letters_at s g)) w) (wide : v ≡ capped (value_after 0 (run digit (letters_at s w))))
    (space : Stands s (past digit (letters_at s w)) e) (down : Stands s (past blank (letters_at s e)) h)
    (high : u ≡ capped (value_after 0 (run digit (letters_at s h)))) (last : Stands s (past digit (letters_at s h)) d) where
  all : List Letter
  all = letters_at s 0

  at_figure : Stands s (next all) q
  unfolding all
  at_figure = stands_as (sym (stands_next letter)) figure

  at_gap : Stands s (from_gap all) g
  at_gap = stands_as (sym (stands_next at_figure)) gap

  at_width : Stands s (from_width all) w
  at_width = stands_as (ap (past blank) (sym at_gap.is)) across

  at_space : Stands s (from_space all) e
  at_space = stands_as (ap (past digit) (sym at_width.is)) space

  at_height : Stands s (from_height all) h
  at_height = stands_as (ap (past blank) (sym at_space.is)) down

  at_last : Stands s (from_last all) d
  at_last = stands_as (ap (past digit) (sym at_height.is)) last

  -- the code's tests, each by what it answered
  module _ (width height : ℕ) (limits : (1 ≤ width) × (width ≤ 4096) × (1 ≤ height) × (height ≤ 4096)) {a b x y z : Bool}
      (is_p : a ≡ (ltb p (length s) && eqb 80 (get_or s p 0))) (is_4 : b ≡ (ltb q (length s) && eqb 52 (get_or s q 0)))
      (gaps : x ≡ (ltb g (length s) && blank (get_or s g 0))) (spaces : y ≡ (ltb e (length s) && blank (get_or s e 0)))
      (lasts : z ≡ (ltb d (length s) && blank (get_or s d 0))) where
    tested : names width height s ≡ (((a && b) && ((x && y) && z)) && (eqb v width && eqb u height))
    unfolding names all
    tested =
        shuffle (first (eqb 80) all) (first (eqb 52) (next all)) (first blank (from_gap all)) (first digit (from_width all)) (first blank (from_space all))
        (first digit (from_height all)) (first blank (from_last all)) (eqb (value_after 0 (run digit (from_width all))) width)
        (eqb (value_after 0 (run digit (from_height all))) height)
        ∙ ap₂ (λ (m n : Bool). m && n)
        (ap₂ (λ (m n : Bool). m && n) (ap₂ (λ (m n : Bool). m && n) (stands_first letter (eqb 80) ∙ sym is_p) (stands_first at_figure (eqb 52) ∙ sym is_4))
        (ap₂ (λ (m n : Bool). m && n) (ap₂ (λ (m n : Bool). m && n) (stands_first at_gap blank ∙ sym gaps) (stands_first at_space blank ∙ sym spaces))
        (stands_first at_last blank ∙ sym lasts)))
        (ap₂ (λ (m n : Bool). m && n)
        (side (from_width all) v width limits.0 limits.1 (wide ∙ ap (λ (l : List Letter). capped (value_after 0 (run digit l))) (sym at_width.is)))
        (side (from_height all) u height limits.2 limits.3 (high ∙ ap (λ (l : List Letter). capped (value_after 0 (run digit l))) (sym at_height.is))))

    pub is_found : (((a && b) && ((x && y) && z)) && (eqb v width && eqb u height)) ≡ true → Finds s width height (Some (d + 1))
    unfolding rows_of all
    is_found t =
        let m = (halves (a && b) ((x && y) && z) (halves ((a && b) && ((x && y) && z)) (eqb v width && eqb u height) t).0).1 in
        let l = (inside d (length s) z (blank (get_or s d 0)) lasts (halves (x && y) z m).1).0 in
        record {
          found = λ n. (omega arith, stands_after at_last l);
          not_found = λ n. absurd (true≢false (sym t ∙ sym tested ∙ n));
        }

    pub is_not_found : (((a && b) && ((x && y) && z)) && (eqb v width && eqb u height)) ≡ false → Finds s width height None
    is_not_found t =
        record {
          found = λ n. absurd (true≢false (sym n ∙ tested ∙ t));
          not_found = λ n. refl;
        }
