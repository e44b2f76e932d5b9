-- The calls of a file that was read.
use Rattle.std.proofs.Common.{◌≡◌, ℕ, List, Ok, Err, vec_items, Result, Vec, ◌∙◌, subst, MatchResult}
use Rattle.std.specs.Result.{IsOkAnd}
use Rattle.std.specs.declared.alloc.AllocError.{AllocError}
use Rattle.std.specs.declared.alloc.Global.{Global}
use Rattle.memory.specs.declared.Memory
use Rattle.digest.specs.declared.Digest
use Rattle.board.specs.declared.Answer.{Answer}
use Rattle.board.specs.declared.Call.{Call}
use Rattle.board.specs.State.{start}
use Rattle.board.specs.Steps.{run}
use Rattle.board.specs.Beside.{KeptApart}
use Rattle.board.proofs.Beside.{kept_apart}
use Rattle.files.specs.declared.File.{File}
use Rattle.files.specs.Files.{IsFiled}
use Rattle.files.specs.Files.{all_filed}
use Rattle.runs.specs.Every.{RanNew}
use Rattle.compare.specs.declared.replay.Answered.{Answered}
use Rattle.compare.specs.Replays.{calls_in, file_events, ReplayedSo}

module _ {M D : Type 0} (m : Memory.Ghosts M) (d : Digest.Ghosts D) (key : List ℕ) (memory : M) (bs : List ℕ) where
  -- the answers with their file, or that memory was wanting for them
  module _ (f : File) (cs : List Call) (after : M) (is : IsFiled f (all_filed bs)) (same : cs ≡ vec_items f.calls) where
    pub replayed : (post : Vec Answer Global → Answered → Type 0) (ran : Result (Vec Answer Global) AllocError) (made : Result Answered AllocError) → ((xs : Vec Answer Global) (a : Answered) → post xs a → a ≡ record { file = f; answers = xs }) → MatchResult ran (λ xs. RanNew m d key memory cs (vec_items xs) after) (λ e. after ≡ memory) → MatchResult ran (λ xs. IsOkAnd made (post xs)) (λ e. made ≡ Err e) → ReplayedSo m d key memory bs (record { memory = after; result = made })
    replayed post (Ok xs) (Ok a) handed_on r maps =
        let P : List Call → Type 0 = λ ys. RanNew m d key memory ys (vec_items xs) after in
        rw (handed_on xs a maps) (record { file = is; ran = subst P (same ∙ is.calls) r })
    replayed post (Ok xs) (Err e) handed_on r maps = elim maps [ ]
    replayed post (Err e) made handed_on r maps = rw maps r

  -- beside any other file
  pub beside_any : (others cs : List ℕ) → KeptApart d.meaning key (m.words memory) others (file_events m d key memory bs) (run d.meaning key (start others) (calls_in cs))
  beside_any others cs = kept_apart d.meaning key (m.words memory) others (calls_in bs) (calls_in cs)
