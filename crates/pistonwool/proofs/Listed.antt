-- What a drawing and a fill beside a list told, told on to C; the list goes by the number alone.
use Prim.Native.Nat.{ℕ, ◌<◌}
use mathlib.Core.Path.{◌≡◌, refl, sym, ap, ◌∙◌}
use mathlib.Core.List.{List, []}
use mathlib.Core.Bool.{cond}
use lib.Dec.{eqb}
use lib.IntN.{ℤ}
use lib.ListN.{length}
use Rattle.sheet.specs.Reply.{Answer, done, value_of, settled}
use Rattle.sheet.specs.Drawing.{Drawing, Draws}
use Rattle.sheet.specs.declared.Shape.{Shape}
use Rattle.sheet.specs.declared.refusal.Refusal.TheVariants.{Places, Tally}
use Rattle.tally.specs.Tally.{tally_of, right, if_places, if_tally, recounted, beside, plain}
use Rattle.pistonwool.specs.Told.{numbered, counted, Keeps, box_numbers, DrawsInto}
use Rattle.pistonwool.proofs.Told.{Tells, unless_tells, sheet_tells, None, number_told, One, draws_number, draws_small, draws_count}

-- an answer beside a list tells what it tells without, or a refusal
pub beside_tells : {P : List ℤ → Type 0} (k : Shape) (n : ℕ) (lent rows : List ℕ) (a : Answer) → Tells P a → Tells P (if_tally k n lent rows a)
unfolding if_tally if_places
beside_tells k n lent rows a h =
    sheet_tells k n _ (λ e. unless_tells (eqb (length rows) k.height) Places _ (λ f. unless_tells (right k lent rows) Tally a (λ g. h)))

-- counting afresh tells its number alone
pub places_number : (k : Shape) (n places : ℕ) (a : Answer) → a ≡ if_places k n places (done []) → a ≡ numbered a.number
unfolding if_places
places_number k n places a e =
    let tells = sheet_tells k n _ (λ f. unless_tells (eqb places k.height) Places _ (λ g. Tells.done [] refl)) in
    e ∙ number_told _ tells ∙ ap (λ (b : Answer). numbered b.number) (sym e)

-- the list, by the number
pub by_number : (k : Shape) (s rows after : List ℕ) (m n : ℕ) → after ≡ cond (eqb m 0) (tally_of k s rows) rows → n ≡ m → after ≡ recounted k (numbered n) s rows
by_number k s rows after m n c e = c ∙ ap (λ (m : ℕ). cond (eqb m 0) (tally_of k s rows) rows) (sym e)

module _ (d : Drawing) (k : Shape) (lent rows t after : List ℕ) (a : Answer)
    (h : Draws (beside plain lent rows d) lent a t) (c : after ≡ recounted k a t rows) where
  pub tallied_number : Tells None (d.answer (length lent)) → (n : ℕ) (before box : List ℕ) → n ≡ a.number → box ≡ settled a (box_numbers a.box) before
      → DrawsInto (beside plain lent rows d) lent (numbered n) t before box × (after ≡ recounted k (numbered n) t rows)
  tallied_number p n before box e f = (
    draws_number (beside plain lent rows d) lent t a h n before box (beside_tells d.shape (length lent) lent rows (d.answer (length lent)) p) e f,
    by_number k t rows after a.number n c e,
  )

  module _ (p : Tells One (d.answer (length lent))) where
    told : Tells One ((beside plain lent rows d).answer (length lent))
    told = beside_tells d.shape (length lent) lent rows (d.answer (length lent)) p

    pub tallied_small : value_of a < 4294967296
    tallied_small = draws_small (beside plain lent rows d) lent t a h told

    pub tallied_count : (n v cells : ℕ) (before box : List ℕ) → (n ≡ a.number) × (v ≡ settled a (value_of a) cells) → box ≡ settled a (box_numbers a.box) before
        → DrawsInto (beside plain lent rows d) lent (counted n v) t before box × (Keeps n cells v × (after ≡ recounted k (numbered n) t rows))
    tallied_count n v cells before box e f =
        let q = draws_count (beside plain lent rows d) lent t a h told n v cells before box e f in
        (q.0, (q.1, by_number k t rows after a.number n c e.0))
