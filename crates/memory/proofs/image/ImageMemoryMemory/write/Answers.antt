use Rattle.std.proofs.Common.{◌/◌, ◌<◌, arith}
use Rattle.memory.specs.Images.{image_size}
use Rattle.memory.proofs.Pictures.{painted, copied_painted}
use Rattle.memory.proofs.image.ImageMemoryMemory.write.Goals as goal
use Rattle.memory.proofs.image.ImageMemoryMemory.write.Goals.{then-not-self-page, else-not-self-page}

pub returns-clause-after : goal.returns-clause-after
returns-clause-after c =
    let s = c.args.self.now in
    let p = c.args.place in
    let l : p < image_size s.image.now s.area.now = omega arith in
    elim c.if-not-self-page.branch [
      | then-not-self-page w ↦ rw w.self-is (rw w.copy_words.ensures
          (copied_painted s.image.now s.area.now s.copied (p / 64) w.min.result p c.args.word l (grind arith) (omega arith) (grind arith) (grind arith)))
      | else-not-self-page w ↦ rw w.self-is (grind (arith, painted))
    ]
