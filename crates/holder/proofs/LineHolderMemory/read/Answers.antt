use Rattle.std.proofs.Common.{◌≡◌, ◌<◌, length, get_or, Some, None, sym, arith}
use Rattle.std.proofs.lemmas.Bool.Decides.{nat_tests}
use Rattle.memory.proofs.Places.{length_placed}
use Rattle.holder.specs.Lines.{line_of, slot_of, held_lines}
use Rattle.holder.proofs.Steps.{taken, passed_below, fetched_held, fetched_passed, held_within}
use Rattle.holder.specs.Accesses.{below_next}
use Rattle.holder.specs.Slots.{line_next}
use Rattle.std.proofs.lemmas.List.{set-get_or}
use Rattle.holder.proofs.SameHolder.{same_facts}
use Rattle.holder.proofs.LineHolderMemory.read.Goals as goal

pub returns-then-place-size-clause-answer : goal.returns-then-place-size-clause-answer
returns-then-place-size-clause-answer g c = grind (arith, nat_tests, length_placed)

pub returns-then-place-size-clause-declined : goal.returns-then-place-size-clause-declined
returns-then-place-size-clause-declined g c =
    let s = c.args.self.now in
    λ _. same_facts s.slots.lines (λ own small full. record { below = s.below; slots = s.slots; own = own; small = small; full = full }) _ _ _ _ _ _

pub invariant_of-self-in-Some : goal.invariant_of-self-in-Some
invariant_of-self-in-Some g c =
    let s = c.args.self.now in
    let lines = s.slots.lines in
    let ws = g.M.Memory.words s.below in
    let p = c.args.place in
    let l : slot_of p < length lines = omega arith in
    let e : line_next (get_or lines (slot_of p) None) ws (line_of p) ≡ Some c.in-Some.line.now = rw (c.slot_of.ensures, c.in-Some.is) at (sym c.hold.ensures.line) in
    let t = taken lines ws p c.in-Some.line.now l (record { own = s.own; small = s.small; full = s.full }) c.ranges.place.fits e in
    rw c.slot_of.ensures (record { own = t.sound.own; small = t.sound.small; full = t.sound.full })

pub returns-in-Some : goal.returns-in-Some
returns-in-Some g c =
    let s = c.args.self.now in
    let lines = s.slots.lines in
    let ws = g.M.Memory.words s.below in
    let p = c.args.place in
    let l : slot_of p < length lines = omega arith in
    let e : line_next (get_or lines (slot_of p) None) ws (line_of p) ≡ Some c.in-Some.line.now = rw (c.slot_of.ensures, c.in-Some.is) at (sym c.hold.ensures.line) in
    let below : g.M.Memory.words c.hold.new.below ≡ below_next lines ws p = rw c.slot_of.ensures at c.hold.ensures.below in
    let t = taken lines ws p c.in-Some.line.now l (record { own = s.own; small = s.small; full = s.full }) c.ranges.place.fits e in
    record {
      answer = fetched_held lines ws p c.in-Some.line.now l t (omega arith);
      keeps = rw (c.slot_of.ensures, below) t.keeps;
      declined = λ k. absurd (omega (arith, length_placed));
      held = rw c.slot_of.ensures t.held;
      within = λ all. rw (c.slot_of.ensures, t.held) (held_within (length ws) p (held_lines lines) all);
      slots = rw c.slot_of.ensures t.slots;
      below = below;
    }

pub returns-in-None-clause-answer : goal.returns-in-None-clause-answer
returns-in-None-clause-answer g c =
    let lines = c.args.self.now.slots.lines in
    let ws = g.M.Memory.words c.args.self.now.below in
    let p = c.args.place in
    let e : line_next (get_or lines (slot_of p) None) ws (line_of p) ≡ None = rw (c.slot_of.ensures, c.in-None.is) at (sym c.hold.ensures.line) in
    let below : g.M.Memory.words c.hold.new.below ≡ below_next lines ws p = rw c.slot_of.ensures at c.hold.ensures.below in
    rw (c.read.ensures.answer, below, passed_below lines ws p e) (fetched_passed lines ws p e (omega arith))

pub returns-in-None-clause-declined : goal.returns-in-None-clause-declined
returns-in-None-clause-declined g c = λ k. absurd (omega (arith, length_placed))

pub returns-in-None-clause-within : goal.returns-in-None-clause-within
returns-in-None-clause-within g c = λ all. rw set-get_or all
