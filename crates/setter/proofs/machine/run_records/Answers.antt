-- `setter::machine::run_records` meets its contract.
use Rattle.setter.proofs.RunLaws.{run-start, run_end, closes-next, close-inside, close-fits, close-stop, close-turn, opens-next, open-fits, open-stop, open_turn}
use borrow.Author.Rules.{rules}
use mathlib.Core.Path.{refl}
use native.Mathlib.Omega.{arith}
use Rattle.setter.proofs.machine.run_records.Goals as goal
use Rattle.setter.proofs.machine.run_records.Goals.{then-i-n, else-i-n+then-depth-gt0}

pub loop-i-init : goal.loop-i-init
loop-i-init c = run-start _ _ _ _ c.the_sheet-open.ensures c.requires.0 c.requires.1 c.requires.2

pub record_at-r-requires : goal.record_at-r-requires
record_at-r-requires c = close-inside (closes-next c.loop-i.invariant c.next_level-level.ensures c.if-level-depth.true)

pub overflow_sub-around : goal.overflow_sub-around
overflow_sub-around c = let v = (closes-next c.loop-i.invariant c.next_level-level.ensures c.if-level-depth.true).running in search rules

pub returns-in-Some : goal.returns-in-Some
returns-in-Some c = close-stop (closes-next c.loop-i.invariant c.next_level-level.ensures c.if-level-depth.true) c.record_at-r.ensures c.in-Some.ensures refl

pub overflow_sub-depth : goal.overflow_sub-depth
overflow_sub-depth c = let v = (closes-next c.loop-i.invariant c.next_level-level.ensures c.if-level-depth.true).running in search rules

pub after_kid-requires : goal.after_kid-requires
after_kid-requires c = close-fits (closes-next c.loop-i.invariant c.next_level-level.ensures c.if-level-depth.true)

pub loop-i-smaller-then-level-depth : goal.loop-i-smaller-then-level-depth
loop-i-smaller-then-level-depth c = let v = (closes-next c.loop-i.invariant c.next_level-level.ensures c.if-level-depth.true).running in search rules

pub loop-i-preserved-then-level-depth : goal.loop-i-preserved-then-level-depth
loop-i-preserved-then-level-depth c = close-turn (closes-next c.loop-i.invariant c.next_level-level.ensures c.if-level-depth.true) c.record_at-r.ensures c.in_default.ensures refl c.after_kid.ensures

pub returns-in-Some-opening_stop : goal.returns-in-Some-opening_stop
returns-in-Some-opening_stop c = open-stop (opens-next c.loop-i.invariant c.next_level-level.ensures c.if-level-depth.false (elim c.if-i-n.branch [ then-i-n w ↦ omega arith | else-i-n+then-depth-gt0 w ↦ omega (arith, c.loop-i.invariant.within) ])) c.record_at-r-in-loop-i.ensures c.in-Some-opening_stop.ensures refl

pub mark_of-requires : goal.mark_of-requires
mark_of-requires c = open-fits (opens-next c.loop-i.invariant c.next_level-level.ensures c.if-level-depth.false (elim c.if-i-n.branch [ then-i-n w ↦ omega arith | else-i-n+then-depth-gt0 w ↦ omega (arith, c.loop-i.invariant.within) ]))

pub bounds-open-depth-in-loop-i : goal.bounds-open-depth-in-loop-i
bounds-open-depth-in-loop-i c = let v = (opens-next c.loop-i.invariant c.next_level-level.ensures c.if-level-depth.false (elim c.if-i-n.branch [ then-i-n w ↦ omega arith | else-i-n+then-depth-gt0 w ↦ omega (arith, c.loop-i.invariant.within) ])).running in search rules

pub loop-i-preserved : goal.loop-i-preserved
loop-i-preserved c = open_turn (opens-next c.loop-i.invariant c.next_level-level.ensures c.if-level-depth.false (elim c.if-i-n.branch [ then-i-n w ↦ omega arith | else-i-n+then-depth-gt0 w ↦ omega (arith, c.loop-i.invariant.within) ])) c.record_at-r-in-loop-i.ensures c.in_default-opening_stop.ensures refl c.mark_of.ensures c.opened.ensures

pub returns : goal.returns
returns c = run_end _ _ _ _ _ _ _ _ c.loop-i.invariant c.if-i-n.false c.if-depth-gt0.false
