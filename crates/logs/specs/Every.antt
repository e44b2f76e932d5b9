-- The log of a file of records, in terms of the bare board's run.
use Rattle.std.specs.Prelude.{◌≡◌, ℕ, ◌⊎◌, List, String, string_bytes, MatchResult}
use Rattle.std.specs.declared.alloc.Global.{Global}
use Rattle.memory.specs.declared.Memory
use Rattle.digest.specs.declared.Digest
use Rattle.board.specs.declared.Answer.{Answer}
use Rattle.board.specs.State.{start}
use Rattle.board.specs.Steps.{run, replies}
use Rattle.board.specs.Beside.{KeptApart}
use Rattle.files.specs.Files.{all_filed}
use Rattle.runs.specs.Every.{RanNew}
use Rattle.runs.specs.declared.every.Ended.{Ended}
use Rattle.compare.specs.Replays.{calls_in, file_events}
use Rattle.logs.specs.Text.{log}

module _ {M D : Type 0} (m : Memory.Ghosts M) (d : Digest.Ghosts D) (key : List ℕ) (memory : M) (bs : List ℕ) where
  -- the calls of the file were made to a new monitor, with some answers, and left the memory so
  abbrev pub MadeAnew : M → Type 0
  MadeAnew after = (xs : List Answer) × RanNew m d key memory (calls_in bs) xs after

  pub record Logs (r : Ended M (String Global)) : Type 0 where
    -- the calls were made, and the text is the log of the bare board's answers; or memory was wanting, and no call was made
    -- or all were
    pub text : MatchResult r.result (λ t. MadeAnew r.memory × (string_bytes t ≡ log (all_filed bs) (replies (file_events m d key memory bs)))) (λ e. (r.memory ≡ memory) ⊎ MadeAnew r.memory)
    -- of the events behind the log beside those of any other file, begun on any words
    pub apart : (others cs : List ℕ) → KeptApart d.meaning key (m.words memory) others (file_events m d key memory bs) (run d.meaning key (start others) (calls_in cs))
