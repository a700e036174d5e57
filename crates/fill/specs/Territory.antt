-- Document 02, K8: the territory of a cell.
use Rattle.std.specs.Prelude.{ℕ, ◌+◌, ◌≡◌, List, Bool, true, get_or}
use Rattle.sheet.specs.Chain.{wide, tall}
use Rattle.sheet.specs.Sheet.{on_sheet, place}
use Rattle.sheet.specs.declared.Cell.{Cell}
use Rattle.sheet.specs.declared.Shape.{Shape}

-- two cells are side neighbours: one step apart, across or down
abbrev pub Side : Cell → Cell → Type 0
Side c d = wide c d + tall c d ≡ 1

-- a cell of the sheet that does not have the boundary ink
pub record Open (k : Shape) (boundary : ℕ) (s : List ℕ) (c : Cell) : Type 0 where
  pub on : on_sheet k c ≡ true
  pub other : get_or s (place k c) 0 ≡ boundary → ⊥

-- The cells that can be reached from the start by steps to a side neighbour on the sheet without entering a cell of the boundary ink.
pub data Reach (k : Shape) (boundary : ℕ) (s : List ℕ) (start : Cell) : Cell → Type 0 where
  here : Open k boundary s start → Reach k boundary s start start
  step : {c d : Cell} → Reach k boundary s start c → Side c d → Open k boundary s d → Reach k boundary s start d

-- a test that decides reaching
pub record Territory (k : Shape) (boundary : ℕ) (s : List ℕ) (start : Cell) (test : Cell → Bool) : Type 0 where
  pub only : (c : Cell) → test c ≡ true → Reach k boundary s start c
  pub all : (c : Cell) → Reach k boundary s start c → test c ≡ true
