-- Two runs judged with regard to one enclave.
use Rattle.std.specs.Prelude.{◌≡◌, ℕ, true, ◌↔◌, List, map, None, vec_items}
use Rattle.digest.specs.Meaning.{Meaning}
use Rattle.board.specs.declared.Call.{Call}
use Rattle.board.specs.State.{start}
use Rattle.board.specs.Answers.{Reply}
use Rattle.board.specs.Questions.{is_enclave_number}
use Rattle.board.specs.Steps.{Event, run, replies}
use Rattle.board.specs.Sight.{inward, DifferOnlyInward}
use Rattle.sight.specs.Answers.{told}
use Rattle.sight.specs.declared.judging.Verdict.{Verdict}

-- of two runs begun on some words and on others
pub record Judges (e : ℕ) (v : Verdict) (words others : List ℕ) (xs ys : List Event) : Type 0 where
  -- the marked calls are the inward ones of e
  pub left_inward : vec_items v.left ≡ map (inward e) xs
  pub right_inward : vec_items v.right ≡ map (inward e) ys
  -- no other call is named exactly when the runs differ only in inward calls of e
  pub only_inward : (v.other ≡ None) ↔ DifferOnlyInward e xs ys
  -- no place is told apart exactly when others than e are answered the same
  pub told_same : (v.told ≡ None) ↔ (told e xs ≡ told e ys)
  -- on equal words, where no other call is named no place is told apart
  pub nothing_told : is_enclave_number e ≡ true → words ≡ others → v.other ≡ None → v.told ≡ None

-- of any two runs of the bare board, with one key, that have these calls and answers
abbrev pub Judged : Meaning → ℕ → List Call → List Reply → List Call → List Reply → Verdict → Type 0
Judged h e cs rs ds qs v =
    (key words others : List ℕ)
    → rs ≡ replies (run h key (start words) cs)
    → qs ≡ replies (run h key (start others) ds)
    → Judges e v words others (run h key (start words) cs) (run h key (start others) ds)
