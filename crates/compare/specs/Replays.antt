-- Files of records, whose calls are made to new monitors.
use Rattle.std.specs.Prelude.{◌≡◌, ℕ, List, vec_items, MatchResult}
use Rattle.memory.specs.declared.Memory
use Rattle.digest.specs.declared.Digest
use Rattle.board.specs.declared.Call.{Call}
use Rattle.board.specs.State.{start}
use Rattle.board.specs.Steps.{Event, run}
use Rattle.board.specs.Beside.{KeptApart}
use Rattle.files.specs.Files.{calls_of, IsFiled}
use Rattle.files.specs.Files.{all_filed}
use Rattle.runs.specs.Every.{events, RanNew}
use Rattle.runs.specs.declared.every.Ended.{Ended}
use Rattle.compare.specs.declared.replay.Answered.{Answered}
use Rattle.compare.specs.declared.Pair.{Pair}

-- the calls of a file before its first fault
abbrev pub calls_in : List ℕ → List Call
calls_in bs = calls_of (all_filed bs)

-- the bare board's events of a file, made to a new monitor over this memory
abbrev pub file_events : {M D : Type 0} → Memory.Ghosts M → Digest.Ghosts D → List ℕ → M → List ℕ → List Event
file_events m d key memory bs = events m d key memory (calls_in bs)

-- the file as it was read, with its fault whole, and its calls made so
pub record AnsweredSo {M D : Type 0} (m : Memory.Ghosts M) (d : Digest.Ghosts D) (key : List ℕ) (memory : M) (bs : List ℕ) (a : Answered) (after : M) : Type 0 where
  pub file : IsFiled a.file (all_filed bs)
  pub ran : RanNew m d key memory (calls_in bs) (vec_items a.answers) after

-- the calls of the file were made; or memory was wanting, and the memory of the board is as it was
abbrev pub ReplayedSo : {M D : Type 0} → Memory.Ghosts M → Digest.Ghosts D → List ℕ → M → List ℕ → Ended M Answered → Type 0
ReplayedSo m d key memory bs r = MatchResult r.result (λ a. AnsweredSo m d key memory bs a r.memory) (λ e. r.memory ≡ memory)

pub record Replays {M D : Type 0} (m : Memory.Ghosts M) (d : Digest.Ghosts D) (key : List ℕ) (memory : M) (bs : List ℕ) (r : Ended M Answered) : Type 0 where
  -- the answers, and the states after each call, are those of the bare board's events
  pub ran : ReplayedSo m d key memory bs r
  -- and of these events beside those of any other file, begun on any words: what others cannot tell, what disturbs no life
  pub apart : (others cs : List ℕ) → KeptApart d.meaning key (m.words memory) others (file_events m d key memory bs) (run d.meaning key (start others) (calls_in cs))

pub record ComparesFiles {M N D : Type 0} (m : Memory.Ghosts M) (n : Memory.Ghosts N) (d : Digest.Ghosts D) (key : List ℕ) (left : M) (right : N) (bs cs : List ℕ) (r : Pair (Ended M Answered) (Ended N Answered)) : Type 0 where
  pub left_ran : ReplayedSo m d key left bs r.left
  pub right_ran : ReplayedSo n d key right cs r.right
  pub apart : KeptApart d.meaning key (m.words left) (n.words right) (file_events m d key left bs) (file_events n d key right cs)
