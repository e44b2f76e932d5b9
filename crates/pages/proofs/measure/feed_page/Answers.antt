use Rattle.std.proofs.Common.{◌<◌, ◌+◌, ◌*◌, [], ◌∷◌, take, drop, sym, ◌∙◌, subst, arith, length-take}
use Rattle.pages.specs.Fed.{Fed}
use Rattle.pages.proofs.Feeds.{turn_word, turn_none}
use Rattle.pages.proofs.measure.feed_page.Goals as goal
use Rattle.pages.proofs.measure.feed_page.Goals.{in-Ok, in_default}

pub loop-offset-preserved : goal.loop-offset-preserved
loop-offset-preserved g c =
    let d = g.D.Digest in
    let ws = g.M.Memory.words c.args.memory.now in
    let held = g.M.Memory.words c.loop-offset.memory in
    let was = c.loop-offset.digest in
    let room : d.count was < 65536 = omega (arith, c.loop-offset.invariant.0.count, length-take c.loop-offset.offset (drop (64 * c.args.frame) ws)) in (
      elim c.match-read.branch [
        | in-Ok w ↦
            let P : _ → Type 0 = λ x. Fed d.meaning (d.state was) (d.count was) (w.in-Ok.word ∷ []) (d.state x) (d.count x) in
            let fed : P w.put.new.digest = record { state = w.put.ensures.state room; count = w.put.ensures.count room } in
            turn_word d.meaning ws held (64 * c.args.frame) c.loop-offset.offset c.loop-offset.invariant.1 c.loop-offset.invariant.0 w.in-Ok.word w.in-Ok.ensures.answer (subst P (sym w.digest-is) fed)
        | in_default w ↦
            let P : _ → Type 0 = λ x. Fed d.meaning (d.state c.args.digest.now) (d.count c.args.digest.now) (take (c.loop-offset.offset + 1) (drop (64 * c.args.frame) ws)) (d.state x) (d.count x) in
            subst P (sym w.digest-is) (turn_none d.meaning ws held (64 * c.args.frame) c.loop-offset.offset c.loop-offset.invariant.1 c.loop-offset.invariant.0 w.in_default.field-0 w.in_default.ensures.answer)
      ],
      c.read.ensures.keeps ∙ c.loop-offset.invariant.1,
    )
