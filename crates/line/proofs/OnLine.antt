-- The cells that a line marks are those that it lists, and the same from either end.
use Rattle.std.proofs.Common.{◌≡◌, ℕ, ◌+◌, ◌-◌, ◌≤◌, Bool, true, false, cond, T, sym, refl, ap, ◌∙◌, arith}
use Rattle.laws.specs.Below.{any}
use Rattle.laws.proofs.Below.{any_as, any_at, any→}
use Rattle.sheet.specs.Sheet.{is_cell}
use Rattle.sheet.specs.declared.Cell.{Cell}
use Rattle.sheet.proofs.Cells.{is_cell→, is_cell_refl}
use Rattle.line.specs.Rule.{lesser, long, nth, on_line}
use Rattle.line.specs.Listing.{listed}
use Rattle.line.proofs.EitherEnd.{long_sym, nth_either}
use Rattle.line.proofs.Rise.{from_either}

-- exchanging the ends gives the same cells
pub on_line_either : (a b c : Cell) → on_line a b c ≡ on_line b a c
unfolding on_line
on_line_either a b c =
    any_as (long a b + 1) (λ (n : ℕ). is_cell (nth a b n) c) (λ (n : ℕ). is_cell (nth b a n) c) (λ n l. ap (λ (d : Cell). is_cell d c) (nth_either a b n))
    ∙ ap (λ (k : ℕ). any (k + 1) (λ (n : ℕ). is_cell (nth b a n) c)) (long_sym b a)

-- n counted twice from either end is n
counted_twice : (t : Bool) (L n : ℕ) → n ≤ L → cond t (cond t n (L - n)) (L - cond t n (L - n)) ≡ n
counted_twice true L n l = refl
counted_twice false L n l = omega arith

-- each listed cell is of the line
pub listed_on : (a b : Cell) (n : ℕ) → n ≤ long a b → T (on_line a b (listed a b n))
unfolding on_line listed
listed_on a b n l =
    let k = cond (lesser a b) n (long a b - n) in
    let w = from_either (lesser a b) n (long a b) l in
    any_at (long a b + 1) (λ (m : ℕ). is_cell (nth a b m) (nth a b k)) k (omega arith) (is_cell_refl (nth a b k))

-- and each cell of the line is listed
pub record ListedAs (a b c : Cell) : Type 0 where
  pub number : ℕ
  pub within : number ≤ long a b
  pub is_cell : c ≡ listed a b number

pub on_listed : (a b c : Cell) → T (on_line a b c) → ListedAs a b c
unfolding on_line listed
on_listed a b c t =
    let f = any→ (long a b + 1) (λ (n : ℕ). is_cell (nth a b n) c) t in
    let l : f.at ≤ long a b = omega (arith, f.below) in
    record {
      number = cond (lesser a b) f.at (long a b - f.at);
      within = from_either (lesser a b) f.at (long a b) l;
      is_cell = is_cell→ (nth a b f.at) c f.passes ∙ ap (nth a b) (sym (counted_twice (lesser a b) (long a b) f.at l));
    }
