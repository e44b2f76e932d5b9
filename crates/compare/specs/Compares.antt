-- Two lists of calls, made to two new monitors with one key.
use Rattle.std.specs.Prelude.{ℕ, List, Vec}
use Rattle.std.specs.declared.alloc.Global.{Global}
use Rattle.memory.specs.declared.Memory
use Rattle.digest.specs.declared.Digest
use Rattle.board.specs.declared.Answer.{Answer}
use Rattle.board.specs.declared.Call.{Call}
use Rattle.board.specs.Beside.{KeptApart}
use Rattle.runs.specs.Every.{events, EndedSo}
use Rattle.runs.specs.declared.every.Ended.{Ended}
use Rattle.compare.specs.declared.Pair.{Pair}

pub record Compares {M N D : Type 0} (m : Memory.Ghosts M) (n : Memory.Ghosts N) (d : Digest.Ghosts D) (key : List ℕ) (left : M) (right : N) (cs ds : List Call) (r : Pair (Ended M (Vec Answer Global)) (Ended N (Vec Answer Global))) : Type 0 where
  -- the answers of each run, and its states after each call, are those of the bare board's events
  pub left_ran : EndedSo m d key left cs r.left
  pub right_ran : EndedSo n d key right ds r.right
  -- of these very events: what others cannot tell, what disturbs no life, what a measurement fixes and a life attests
  pub apart : KeptApart d.meaning key (m.words left) (n.words right) (events m d key left cs) (events n d key right ds)
