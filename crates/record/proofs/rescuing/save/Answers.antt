-- `record::rescuing::save` meets its contract.
use Prim.Native.Nat.{ℕ, ◌+◌, ◌-◌, ◌≤◌}
use mathlib.Core.Path.{subst, ◌∙◌}
use mathlib.Core.List.{List}
use native.Mathlib.Omega.{arith}
use lib.ListN.{length}
use Rattle.std.specs.Prelude.{Some}
use Rattle.record.specs.Inner.{Ends}
use Rattle.record.proofs.Parts.{leaves}
use Rattle.record.proofs.Saving.{Carried, carried, left_out, file_ends_lem, put_length, put_between, begins, kept, told, saved}
use Rattle.record.proofs.rescuing.save.Goals as goal
use Rattle.record.proofs.rescuing.save.Goals.{After-sound_run-run, After-left_to-at}

pub loop-at-init : goal.loop-at-init
loop-at-init c = begins _ _

abbrev file : After-sound_run-run → List ℕ
file c = c.args.file.now

-- the records that follow each other from where it begins
run : (c : After-sound_run-run) → Carried (file c) c.loop-at.at c.sound_run-run.result.end
run c = carried _ _ c.loop-at.invariant.inside _ c.sound_run-run.ensures.follow

-- the copy has room for them
fits : (c : After-sound_run-run) → let l = c.loop-at in l.copied + (c.sound_run-run.result.end - l.at) ≤ length l.copy
fits c =
    let k = run c in
    let inv = c.loop-at.invariant in
    omega (arith, k.on, k.inside, inv.few, put_length inv.copy, c.requires.copy)

pub overflow_sub-more : goal.overflow_sub-more
overflow_sub-more c = (run c).on

pub slice_bounds-copy_from_slice-end : goal.slice_bounds-copy_from_slice-end
slice_bounds-copy_from_slice-end c =
    let k = run c in
    omega (arith, fits c, k.on, k.inside, put_length c.loop-at.invariant.copy, c.requires.copy)

pub slice_bounds-copy_from_slice-count-in-loop-at : goal.slice_bounds-copy_from_slice-count-in-loop-at
slice_bounds-copy_from_slice-count-in-loop-at c = (run (goal.at.slice_bounds-copy_from_slice-count-in-loop-at c).After-sound_run-run).on

pub slice_bounds-copy_from_slice-start-in-loop-at : goal.slice_bounds-copy_from_slice-start-in-loop-at
slice_bounds-copy_from_slice-start-in-loop-at c = (run (goal.at.slice_bounds-copy_from_slice-start-in-loop-at c).After-sound_run-run).on

pub slice_bounds-copy_from_slice-end-in-loop-at : goal.slice_bounds-copy_from_slice-end-in-loop-at
slice_bounds-copy_from_slice-end-in-loop-at c = (run (goal.at.slice_bounds-copy_from_slice-end-in-loop-at c).After-sound_run-run).inside

-- what is left out where they end
ends : (c : After-left_to-at) → Ends c.args.file.now c.sound_run-run.result.end (Some c.in-Some.refusal)
ends c = subst (Ends c.args.file.now c.sound_run-run.result.end) c.in-Some.is c.sound_run-run.ensures.ends

pub left_to-at-requires : goal.left_to-at-requires
left_to-at-requires c = subst (Ends c.args.file.now c.sound_run-run.result.end) c.in-Some.is c.sound_run-run.ensures.ends

pub loop-at-smaller-in-Some : goal.loop-at-smaller-in-Some
loop-at-smaller-in-Some c =
    let m = leaves _ _ _ (left_out _ _ _ (ends c)).here in
    omega (arith, (run (goal.at.loop-at-smaller-in-Some c).After-sound_run-run).on, m.on, m.inside, c.left_to-at.ensures, c.loop-at-test.true)

pub loop-at-preserved-in-Some : goal.loop-at-preserved-in-Some
loop-at-preserved-in-Some c =
    let l = c.loop-at in
    let k = run (goal.at.loop-at-preserved-in-Some c).After-sound_run-run in
    let put = put_between l.copy _ l.at _ l.copied _ k.on k.inside (fits (goal.at.loop-at-preserved-in-Some c).After-sound_run-run) c.copy_from_slice.ensures.after in
    let copied = kept _ _ _ l.at l.copied l.listed _ _ l.invariant c.sound_run-run.ensures.follow put in
    told _ _ _ _ _ l.listed _ _ _ copied (ends c) (c.from.ensures ∙ c.number.ensures) c.left_to-at.ensures

pub loop-at-smaller : goal.loop-at-smaller
loop-at-smaller c =
    let over = file_ends_lem _ _ (subst (Ends c.args.file.now c.sound_run-run.result.end) c.in_default.is c.sound_run-run.ensures.ends) in
    omega (arith, (run (goal.at.loop-at-smaller c).After-sound_run-run).on, over, c.loop-at-test.true)

pub loop-at-preserved : goal.loop-at-preserved
loop-at-preserved c =
    let l = c.loop-at in
    let k = run (goal.at.loop-at-preserved c).After-sound_run-run in
    kept _ _ _ l.at l.copied l.listed _ _ l.invariant c.sound_run-run.ensures.follow
    (put_between l.copy _ l.at _ l.copied _ k.on k.inside (fits (goal.at.loop-at-preserved c).After-sound_run-run) c.copy_from_slice.ensures.after)

pub returns : goal.returns
returns c =
    let loop = c.loop-at in
    saved _ _ _ loop.at loop.copied loop.listed c.requires loop.invariant c.loop-at-test.false
