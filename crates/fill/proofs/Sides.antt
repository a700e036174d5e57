-- Two sides of a boundary, no cell of the one beside a cell of the other: nobody crosses.
use Prim.Native.Nat.{ℕ}
use mathlib.Core.Path.{◌≡◌, refl, sym, ap, ap₂, ◌∙◌}
use mathlib.Core.List.{List, [], ◌∷◌}
use mathlib.Core.Logic.{◌⊎◌, inl, inr}
use mathlib.Core.Bool.{Bool, true, false, ◌||◌, true≢false}
use lib.ListN.{get_or}
use Rattle.laws.proofs.Tests.{is_false, is_true}
use Rattle.sheet.specs.Sheet.{on_sheet, place}
use Rattle.sheet.specs.Reply.{Answer, is_done}
use Rattle.sheet.specs.declared.Cell.{Cell}
use Rattle.sheet.specs.declared.Shape.{Shape}
use Rattle.fill.specs.Territory.{Side, Open, Reach, here, step}
use Rattle.fill.specs.Fill.{Fills}
use Rattle.fill.specs.Crossing.{SidePath, end, side, meets, AllInked, Parts, Divides}
use Rattle.fill.proofs.Reaching.{side_back, reach_open}
use Rattle.fill.proofs.Outcome.{cell_after, refused_keeps}

pub record Sides (k : Shape) (boundary : Cell → Bool) (one other : Cell → Type 0) : Type 0 where
  pub each : (c : Cell) → on_sheet k c ≡ true → one c ⊎ other c ⊎ (boundary c ≡ true)
  pub not_both : (c : Cell) → one c → other c → ⊥
  pub not_one : (c : Cell) → one c → boundary c ≡ false
  pub not_other : (c : Cell) → other c → boundary c ≡ false
  pub not_beside : (c d : Cell) → one c → other d → Side c d → ⊥

-- either is called the one
other_first : {A B C : Type 0} → A ⊎ B ⊎ C → B ⊎ A ⊎ C
other_first (inl a) = inr (inl a)
other_first (inr (inl b)) = inl b
other_first (inr (inr c)) = inr (inr c)

turned : {k : Shape} {boundary : Cell → Bool} {one other : Cell → Type 0} → Sides k boundary one other → Sides k boundary other one
turned s =
    record {
      each = λ c o. other_first (s.each c o);
      not_both = λ c p q. s.not_both c q p;
      not_one = s.not_other;
      not_other = s.not_one;
      not_beside = λ c d p q n. s.not_beside d c q p (side_back c d n);
    }

-- a path begins on the sheet
begins : {k : Shape} {a b : Cell} {cells : List Cell} → SidePath k a b cells → on_sheet k a ≡ true
begins (end o) = o
begins (side o n p) = o

-- a path meets the boundary with its first cell, or with a later one
meets_first : (boundary : Cell → Bool) {k : Shape} {a b : Cell} {cells : List Cell} → SidePath k a b cells → boundary a ≡ true
    → meets boundary cells ≡ true
unfolding meets
meets_first boundary (end o) e = ap (λ (t : Bool). t || false) e
meets_first boundary (side {cells = cells} o n p) e = ap (λ (t : Bool). t || meets boundary cells) e

or_later : (t u : Bool) → u ≡ true → (t || u) ≡ true
or_later true u e = refl
or_later false u e = e

module _ {k : Shape} {boundary : Cell → Bool} (ink : ℕ) (s : List ℕ) (inked : AllInked k ink boundary s) where
  open_not : (c : Cell) → Open k ink s c → boundary c ≡ false
  open_not c o = is_false (boundary c) (λ t. o.other (inked c o.on (is_true (boundary c) t)))

  -- what is reached has a path back that does not meet it
  way_back : {start c : Cell} → Reach k ink s start c → (cells : List Cell) × SidePath k c start cells × (meets boundary cells ≡ false)
  unfolding meets
  way_back {start} (here o) = (start ∷ [], end o.on, ap (λ (t : Bool). t || false) (open_not start o))
  way_back (step {c} {d} r n o) =
      let w = way_back r in
      (d ∷ w.0, side o.on (side_back c d n) w.1, ap₂ ◌||◌ (open_not d o) w.2)

module _ {k : Shape} {boundary : Cell → Bool} {one other : Cell → Type 0} where
  -- a path leaves the one side only for a cell of the boundary
  crosses : Sides k boundary one other → {a b : Cell} {cells : List Cell} → one a → other b → SidePath k a b cells
      → meets boundary cells ≡ true
  unfolding meets
  crosses s p q (end {a} o) = absurd (s.not_both a p q)
  crosses s p q (side {a} {c} {b} {cells} o n r) =
      or_later (boundary a) (meets boundary cells) (elim (s.each c (begins r)) [
        | inl p' ↦ crosses s p' q r
        | inr (inl q') ↦ absurd (s.not_beside a c p q' n)
        | inr (inr e) ↦ meets_first boundary r e
      ])

module _ {k : Shape} {boundary : Cell → Bool} {one other : Cell → Type 0} where
  -- where the boundary is inked, no cell of the other side is reached,
  unreached : Sides k boundary one other → {b : ℕ} {s : List ℕ} {start c : Cell} → AllInked k b boundary s → one start → other c
      → Reach k b s start c → ⊥
  unreached sides {b} {s} h p q r =
      let w = way_back b s h r in
      true≢false (sym (crosses (turned sides) q p w.1) ∙ w.2)

  -- and a fill keeps what it does not reach
  kept : Sides k boundary one other → {a : Cell} {b i p : ℕ} {lent : List ℕ} {r : Answer} {s : List ℕ} → Fills k a b i p lent r s
      → AllInked k b boundary lent → one a → (c : Cell) → on_sheet k c ≡ true → other c ⊎ (boundary c ≡ true)
      → get_or s (place k c) 0 ≡ get_or lent (place k c) 0
  kept sides {a} {b} {lent = lent} {r} {s} F h p c o q = by (is_done r) refl
    where
      out : Reach k b lent a c → ⊥
      out n = elim q [ inl q ↦ unreached sides h p q n | inr e ↦ (reach_open n).other (h c o e) ]

      by : (t : Bool) → is_done r ≡ t → get_or s (place k c) 0 ≡ get_or lent (place k c) 0
      by true d = cell_after F d c o false (is_false (F.territory c) (λ t. out ((F.decides d).only c (is_true (F.territory c) t))))
      by false e = ap (λ (s : List ℕ). get_or s (place k c) 0) (refused_keeps F e)

  parts : Sides k boundary one other → Parts k boundary one other
  parts sides =
      record {
        path = λ a b cells p q r. crosses sides p q r;
        reach = λ ink s start c h p q r. unreached sides h p q r;
        fill = λ start b ink places lent reply bytes F h p. kept sides F h p;
      }

pub divides : {k : Shape} {boundary : Cell → Bool} {one other : Cell → Type 0} → Sides k boundary one other → Divides k boundary one other
divides s =
    record {
      each = s.each;
      not_both = s.not_both;
      not_one = s.not_one;
      not_other = s.not_other;
      there = parts s;
      back = parts (turned s);
    }
