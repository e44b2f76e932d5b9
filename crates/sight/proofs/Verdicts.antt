-- A verdict, from what its parts tell.
use Rattle.std.proofs.Common.{◌≡◌, ℕ, List, [], ◌∷◌, map, vec_items, sym, refl, ap, append-nil}
use Rattle.digest.specs.Meaning.{Meaning}
use Rattle.board.specs.declared.Answer.{Answer}
use Rattle.board.specs.declared.Call.{Call}
use Rattle.board.specs.State.{State, start}
use Rattle.board.specs.Answers.{reply_of}
use Rattle.board.specs.Steps.{run, step}
use Rattle.board.specs.Sight.{Sighting}
use Rattle.board.proofs.Beside.{kept_apart}
use Rattle.sight.specs.Marks.{TellsInwardCalls}
use Rattle.sight.specs.Places.{first_place_apart}
use Rattle.sight.specs.Calls.{same_or_inward}
use Rattle.sight.specs.Answers.{same_told}
use Rattle.sight.specs.Judged.{Judged}
use Rattle.sight.specs.declared.judging.Verdict.{Verdict}
use Rattle.sight.proofs.Apart.{other_calls_told, answers_told}

-- the calls of a run's events are those that were made
made_calls : (h : Meaning) (key : List ℕ) (s : State) (cs : List Call) → cs ≡ map (λ x. x.call) (run h key s cs)
made_calls h key s [] = refl
made_calls h key s (c ∷ cs) = ap (λ (ds : List Call). c ∷ ds) (made_calls h key (step h key c s).state cs)

pub judged : (h : Meaning) (e : ℕ) (cs : List Call) (rs : List Answer) (ds : List Call) (qs : List Answer) (v : Verdict)
    → TellsInwardCalls h e cs (map reply_of rs) (vec_items v.left) → TellsInwardCalls h e ds (map reply_of qs) (vec_items v.right)
    → v.other ≡ first_place_apart same_or_inward cs (vec_items v.left) ds (vec_items v.right) → v.told ≡ first_place_apart same_told rs (vec_items v.left) qs (vec_items v.right)
    → Judged h e cs (map reply_of rs) ds (map reply_of qs) v
judged h e cs rs ds qs v marks_left marks_right other told key words others p q =
    let xs = run h key (start words) cs in
    let ys = run h key (start others) ds in
    let left = marks_left key words cs [] (sym (append-nil cs)) p in
    let right = marks_right key others ds [] (sym (append-nil ds)) q in
    let only = other_calls_told cs (vec_items v.left) ds (vec_items v.right) v.other other e xs ys (made_calls h key (start words) cs, left) (made_calls h key (start others) ds, right) in
    let same = answers_told rs (vec_items v.left) qs (vec_items v.right) v.told told e xs ys (p, left) (q, right) in
    record {
      left_inward = left;
      right_inward = right;
      only_inward = only;
      told_same = same;
      nothing_told = λ is equal none. same.1 (ap (λ (z : List Sighting). map (λ s. s.answered) z) (((kept_apart h key words others cs ds).sight equal).sight e is (only.0 none)));
    }
