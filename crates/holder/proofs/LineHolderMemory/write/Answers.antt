use Rattle.std.proofs.Common.{◌≡◌, ◌<◌, length, get_or, Some, None, sym, ◌∙◌, arith}
use Rattle.std.proofs.lemmas.Bool.Decides.{nat_tests}
use Rattle.std.proofs.lemmas.List.{set_past, set-get_or}
use Rattle.memory.proofs.Places.{length_placed}
use Rattle.holder.specs.Lines.{line_of, slot_of, held_lines}
use Rattle.holder.specs.Accesses.{below_next}
use Rattle.holder.specs.Slots.{line_next}
use Rattle.holder.proofs.Held.{passed}
use Rattle.holder.proofs.Steps.{taken, put_held, passed_below, passed_not, held_within}
use Rattle.holder.proofs.SameHolder.{same_facts}
use Rattle.holder.proofs.LineHolderMemory.write.Goals as goal

pub returns-then-place-size-clause-answer : goal.returns-then-place-size-clause-answer
returns-then-place-size-clause-answer g c = grind (arith, nat_tests, length_placed)

pub returns-then-place-size-clause-after : goal.returns-then-place-size-clause-after
returns-then-place-size-clause-after g c = grind (arith, set_past, length_placed)

pub returns-then-place-size-clause-declined : goal.returns-then-place-size-clause-declined
returns-then-place-size-clause-declined g c =
    let s = c.args.self.now in
    λ _. same_facts s.slots.lines (λ own small full. record { below = s.below; slots = s.slots; own = own; small = small; full = full }) _ _ _ _ _ _

pub invariant_of-self-in-Some : goal.invariant_of-self-in-Some
invariant_of-self-in-Some g c =
    let s = c.args.self.now in
    let lines = s.slots.lines in
    let ws = g.M.Memory.words s.below in
    let p = c.args.place in
    let l : slot_of p < length lines = omega arith in
    let e : line_next (get_or lines (slot_of p) None) ws (line_of p) ≡ Some c.in-Some.line.now = rw (c.slot_of.ensures, c.in-Some.is) at (sym c.hold.ensures.line) in
    let t = taken lines ws p c.in-Some.line.now l (record { own = s.own; small = s.small; full = s.full }) c.ranges.place.fits e in
    let put = put_held lines ws p c.args.word c.in-Some.line.now l t (omega arith) in
    rw c.slot_of.ensures (record { own = put.sound.own; small = put.sound.small; full = put.sound.full })

pub returns-in-Some : goal.returns-in-Some
returns-in-Some g c =
    let s = c.args.self.now in
    let lines = s.slots.lines in
    let ws = g.M.Memory.words s.below in
    let p = c.args.place in
    let l : slot_of p < length lines = omega arith in
    let e : line_next (get_or lines (slot_of p) None) ws (line_of p) ≡ Some c.in-Some.line.now = rw (c.slot_of.ensures, c.in-Some.is) at (sym c.hold.ensures.line) in
    let below : g.M.Memory.words c.hold.new.below ≡ below_next lines ws p = rw c.slot_of.ensures at c.hold.ensures.below in
    let t = taken lines ws p c.in-Some.line.now l (record { own = s.own; small = s.small; full = s.full }) c.ranges.place.fits e in
    let put = put_held lines ws p c.args.word c.in-Some.line.now l t (omega arith) in
    record {
      answer = grind (arith, nat_tests, length_placed);
      after = rw (c.slot_of.ensures, below) put.after;
      declined = λ k. absurd (omega (arith, length_placed));
      held = rw c.slot_of.ensures put.held;
      within = λ all. rw (c.slot_of.ensures, put.held) (held_within (length ws) p (held_lines lines) all);
      slots = rw c.slot_of.ensures put.slots;
      below = below ∙ put.below;
    }

pub returns-in-None-clause-answer : goal.returns-in-None-clause-answer
returns-in-None-clause-answer g c =
    let lines = c.args.self.now.slots.lines in
    let ws = g.M.Memory.words c.args.self.now.below in
    let p = c.args.place in
    let e : line_next (get_or lines (slot_of p) None) ws (line_of p) ≡ None = rw (c.slot_of.ensures, c.in-None.is) at (sym c.hold.ensures.line) in
    let below : g.M.Memory.words c.hold.new.below ≡ below_next lines ws p = rw c.slot_of.ensures at c.hold.ensures.below in
    grind (arith, nat_tests, length_placed, below, passed_below lines ws p e)

pub returns-in-None-clause-after : goal.returns-in-None-clause-after
returns-in-None-clause-after g c =
    let lines = c.args.self.now.slots.lines in
    let ws = g.M.Memory.words c.args.self.now.below in
    let p = c.args.place in
    let e : line_next (get_or lines (slot_of p) None) ws (line_of p) ≡ None = rw (c.slot_of.ensures, c.in-None.is) at (sym c.hold.ensures.line) in
    let below : g.M.Memory.words c.hold.new.below ≡ below_next lines ws p = rw c.slot_of.ensures at c.hold.ensures.below in
    rw (set-get_or, c.write.ensures.after, below, passed_below lines ws p e) (passed lines ws p c.args.word (passed_not lines ws p e))

pub returns-in-None-clause-declined : goal.returns-in-None-clause-declined
returns-in-None-clause-declined g c = λ k. absurd (omega (arith, length_placed))
