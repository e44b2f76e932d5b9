use Rattle.std.proofs.Common.{replicate, None}
use lib.ListN.{get_or-replicate}
use Rattle.holder.proofs.Held.{all_clean, clean_none}
use Rattle.holder.proofs.LineHolder.new.Goals as goal

pub returns-clause-means : goal.returns-clause-means
returns-clause-means g c =
    let ws = g.M.Memory.words c.args.below in
    all_clean (replicate 8 None) ws (λ s l. clean_none (replicate 8 None) ws s (get_or-replicate 8 s None None l))
