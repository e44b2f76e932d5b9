use Rattle.std.proofs.Common.{◌≡◌, ℕ, ◌*◌, ◌<◌, length, get_or}
use Rattle.holder.specs.Lines.{overlaid, slot_of}
use Rattle.holder.specs.declared.slots.Line.{Line}
use Rattle.holder.proofs.Held.{Clean}
use Rattle.holder.proofs.Listed.{listed}
use Rattle.holder.proofs.LineHolder.end.Given as goal

abbrev pub invariant-loop-line : goal.invariant-loop-line
invariant-loop-line g l =
    let lines = l.fn.self.slots.lines in
    record {
      means : overlaid lines (g.M.Memory.words l.below) ≡ overlaid lines (g.M.Memory.words l.initial.below);
      clean : (j : ℕ) (line : Line) → j < length l.yielded → line ≡ get_or (listed lines) j line → Clean lines (g.M.Memory.words l.below) (slot_of (line.number * 16));
    }
