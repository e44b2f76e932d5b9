use Rattle.std.proofs.Common.{◌≡◌, length, sym, ◌∙◌, arith}
use Rattle.std.proofs.lemmas.List.{length_push}
use Rattle.std.proofs.lemmas.Iterator.Consumers.{YieldsList-turn, YieldsList-end}
use Rattle.holder.proofs.Listed.{listed_small, listed_means, listed_more, listed_clean, slots_yield}
use Rattle.holder.proofs.LineHolder.end.Goals as goal

pub write_down-requires : goal.write_down-requires
write_down-requires g c =
    let s = c.args.self in
    let road = slots_yield {s = c.into_iter-line-iterator.result} _ (λ x j b. (b.0, b.1)) s.slots.lines (cc) (cc) (cc) (cc) in
    let t = YieldsList-turn road c.loop-line.yielded _ c.loop-line.yielded_by _ _ c.in-Some.line c.in-Some.is c.next.ensures.steps in
    listed_small s.slots.lines (g.M.Memory.words c.loop-line.below) s.own (length c.loop-line.yielded) c.in-Some.line.now t.0 t.1 s.small

pub loop-line-preserved : goal.loop-line-preserved
loop-line-preserved g c =
    let s = c.args.self in
    let lines = s.slots.lines in
    let ws = g.M.Memory.words c.loop-line.below in
    let now = c.in-Some.line.now in
    let n = length c.loop-line.yielded in
    let road = slots_yield {s = c.into_iter-line-iterator.result} _ (λ x j b. (b.0, b.1)) lines (cc) (cc) (cc) (cc) in
    let t = YieldsList-turn road c.loop-line.yielded _ c.loop-line.yielded_by _ _ c.in-Some.line c.in-Some.is c.next.ensures.steps in
    rw c.write_down.ensures (record {
      means = listed_means lines ws s.own n now t.0 t.1 ∙ c.loop-line.invariant.means;
      clean = λ j line l e. listed_more lines ws s.own n now t.0 t.1 c.loop-line.invariant.clean j line (rw (← length_push c.loop-line.yielded c.in-Some.line) l) e;
    })

pub returns : goal.returns
returns g c =
    let s = c.args.self in
    let lines = s.slots.lines in
    let eight : length lines ≡ 8 = omega arith in
    let road = slots_yield {s = c.into_iter-line-iterator.result} _ (λ x j b. (b.0, b.1)) lines (cc) (cc) (cc) (cc) in
    let all = (YieldsList-end road c.loop-line.yielded _ c.loop-line.yielded_by _ _ c.in-None.is c.next.ensures.steps).1 in
    let clean = listed_clean lines (g.M.Memory.words c.loop-line.below) s.own (λ j line l e. c.loop-line.invariant.clean j line (rw all l) e) eight in
    sym clean ∙ c.loop-line.invariant.means
