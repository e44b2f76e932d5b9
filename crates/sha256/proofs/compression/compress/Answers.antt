use Rattle.std.proofs.Common.{◌≡◌, ℕ, ◌+◌, length, ap, ◌∙◌, arith, rules}
use Rattle.std.proofs.lemmas.Grind.{common_steps}
use Rattle.std.proofs.lemmas.List.{length-append, take_at}
use Rattle.sha256.specs.Compression.{schedule}
use Rattle.sha256.proofs.Steps.{schedule_more, round_more}
use Rattle.sha256.proofs.compression.compress.Goals as goal

pub loop-t-init : goal.loop-t-init
unfolding schedule
loop-t-init c =
    let front = c.copy_from_slice.new.self in
    let sixteen : length front ≡ 16 = search rules in
    record {
      length = length-append front _ ∙ ap (λ (n : ℕ). n + 48) sixteen;
      made = take_at front _ 16 sixteen ∙ search rules;
      turned = search rules;
    }

pub loop-t-preserved : goal.loop-t-preserved
loop-t-preserved c =
    record {
      length = grind (arith, common_steps);
      made = grind (arith, common_steps, schedule_more);
      turned = grind (arith, common_steps, round_more);
    }
