-- Two of the five empty programs, for any function and any program: one that refuses all, and one that always replies the same.
-- The answer of a statement is taken as a function of one of its inputs, the others held fast.
use Prim.Native.Nat.{ℕ}
use mathlib.Core.Path.{◌≡◌, sym, ap, ◌∙◌}
use mathlib.Core.Bool.{true, false, true≢false}
use lib.Dec.{eqb}
use native.Mathlib.Omega.{arith}
use lib.ListN.{length}
use Rattle.sheet.specs.Reply.{Answer, words, is_done}
use Rattle.sheet.specs.declared.refusal.Refusal.TheVariants.{Size, Coordinate}

-- a statement answers one input with 0 and refuses another
pub record Both {I : Type 0} (answer : I → Answer) (i j : I) : Type 0 where
  pub done : is_done (answer i) ≡ true
  pub refused : is_done (answer j) ≡ false

-- its answers to two inputs differ
abbrev pub Differ : {I B : Type 0} (answer : I → B) (i j : I) → Type 0
Differ answer i j = answer i ≡ answer j → ⊥

-- A program that refuses all replies no number 0.
pub refuses_all : {I : Type 0} (answer : I → Answer) (i j : I) → Both answer i j
    → (reply : I → ℕ) → ((k : I) → reply k ≡ (answer k).number) → ((k : I) → eqb (reply k) 0 ≡ false) → ⊥
refuses_all answer i j both reply meets refuses = true≢false (sym both.done ∙ ap (λ (n : ℕ). eqb n 0) (sym (meets i)) ∙ refuses i)

-- A program that always replies the same has one reply for any two inputs.
pub replies_same : {I B : Type 0} (answer : I → B) (i j : I) → Differ answer i j
    → (reply : I → B) → ((k : I) → reply k ≡ answer k) → ((k l : I) → reply k ≡ reply l) → ⊥
replies_same answer i j differ reply meets same = differ (sym (meets i) ∙ same i j ∙ meets j)

-- where one input is refused and another not, the numbers differ, and so do the answers
pub numbers_differ : {I : Type 0} (answer : I → Answer) (i j : I) → Both answer i j → Differ (λ (k : I). (answer k).number) i j
numbers_differ answer i j both e = true≢false (sym both.done ∙ ap (λ (n : ℕ). eqb n 0) e ∙ both.refused)

pub answers_differ : {I : Type 0} (answer : I → Answer) (i j : I) → Both answer i j → Differ answer i j
answers_differ answer i j both e = numbers_differ answer i j both (ap (λ (a : Answer). a.number) e)

-- the words of two refusals differ
pub words_differ : Differ words Size Coordinate
words_differ e = omega (arith, ap length e)
