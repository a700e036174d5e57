-- `line::listing::list_along` meets its contract.
use Rattle.std.proofs.Common.{◌≡◌, ◌<◌, ◌≤◌, cond, set, length, ap, arith}
use Rattle.std.proofs.lemmas.Int.{ints}
use Rattle.line.proofs.Along.{begins, turn, gain, within}
use Rattle.line.proofs.listing.list_along.Goals as goal
use Rattle.line.proofs.listing.list_along.Goals.{After-reached_at-t, In-loop-i, then-up-first, else-up-first, then-first, else-first}

-- where it begins
start : (c : After-reached_at-t) → c.if-first.reached_at ≡ cond c.args.first 0 c.args.l
start c = elim c.if-first.branch [ then-first w ↦ simp w.if-first.true w.reached_at-is | else-first w ↦ simp w.if-first.false w.reached_at-is ]

pub loop-i-init : goal.loop-i-init
loop-i-init c =
    let a = c.args in
    begins a.first a.up a.m a.l a.f a.list.now c.reached_at-t.result c.if-first.reached_at (start c) c.reached_at-t.ensures

-- what a turn begins with
gains : (c : In-loop-i) → c.if-up-first.gains ≡ gain c.args.up c.args.first c.args.f
gains c = elim c.if-up-first.branch [ then-up-first w ↦ simp w.if-up-first.true w.gains-is | else-up-first w ↦ simp w.if-up-first.false w.gains-is ]

abbrev Within : (c : In-loop-i) → Type 0
Within c = (c.loop-i.i < length c.loop-i.list) × (4294967296 ≤ c.loop-i.t) × (c.loop-i.t < 562949953421312)

at_turn : (c : In-loop-i) → Within c
at_turn c =
    let k = c.loop-i in
    let a = c.args in
    within a.first a.up a.m a.l a.f c.requires.0 a.list.now k.list k.t k.i c.requires.1 k.invariant c.loop-i-test.true

pub loop-i-preserved : goal.loop-i-preserved
loop-i-preserved c =
    let k = c.loop-i in
    let a = c.args in
    turn a.first a.up a.m a.l a.f c.requires.0 a.list.now k.list k.t k.i c.requires.1 k.invariant c.loop-i-test.true
    c.if-up-first.gains _ (gains (goal.at.loop-i-preserved c).In-loop-i) (ap (set k.list k.i) (omega (arith, ints, at_turn (goal.at.loop-i-preserved c).In-loop-i)))
