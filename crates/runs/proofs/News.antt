-- A run from a new monitor on.
use Rattle.std.proofs.Common.{◌≡◌, ℕ, List, [], ◌++◌, Ok, Err, vec_items, MatchResult, Result, Vec, sym, ap, ◌∙◌, subst, ap₂}
use Rattle.std.specs.Result.{IsOkAnd}
use Rattle.std.specs.declared.alloc.AllocError.{AllocError}
use Rattle.std.specs.declared.alloc.Global.{Global}
use Rattle.memory.specs.declared.Memory
use Rattle.digest.specs.declared.Digest
use Rattle.board.specs.declared.Answer.{Answer}
use Rattle.board.specs.declared.Call.{Call}
use Rattle.board.specs.State.{State, start}
use Rattle.board.specs.Steps.{run, replies}
use Rattle.monitor.specs.declared.Monitor.{Monitor}
use Rattle.monitor.specs.Gate.{state_of}
use Rattle.runs.specs.Runs.{AddsRun, Ran, states}
use Rattle.runs.specs.Every.{IsNew, RanNew, EndedSo}

module _ {M D : Type 0} (m : Memory.Ghosts M) (d : Digest.Ghosts D) (key : List ℕ) (memory : M) (cs : List Call) where
  ran_new : (xs : List Answer) (g z : Monitor M D) (after : M) → IsNew m key memory g → Ran m d.meaning cs g xs z → after ≡ z.memory → RanNew m d key memory cs xs after
  ran_new xs g z after new r handed =
      let same : run d.meaning g.key (state_of m g) cs ≡ run d.meaning key (start (m.words memory)) cs =
      ap₂ (λ (k : List ℕ) (s : State). run d.meaning k s cs) new.same_key new.state in
      record {
        begun = g;
        monitors = r.monitors;
        is_new = new;
        each = r.each;
        handed_over = handed ∙ ap (λ (k : Monitor M D). k.memory) r.last;
        answers = r.answers ∙ ap replies same;
        states_are = r.states_are ∙ ap states same;
      }

  -- the answers that the run added to none, or its error
  module _ (none later : List Answer) (g z : Monitor M D) (after : M) (empty : none ≡ []) (new : IsNew m key memory g) (handed : after ≡ z.memory) where
    pub ended : (post : Unit {0} → Vec Answer Global → Type 0) (ran : Result (Unit {0}) AllocError) (made : Result (Vec Answer Global) AllocError) → ((u : Unit {0}) (xs : Vec Answer Global) → post u xs → vec_items xs ≡ later) → AddsRun m d.meaning cs g none ran z later → MatchResult ran (λ u. IsOkAnd made (post u)) (λ e. made ≡ Err e) → EndedSo m d key memory cs (record { memory = after; result = made })
    ended post (Ok u) (Ok xs) handed_on r maps =
        let P : List Answer → Type 0 = λ xs. RanNew m d key memory cs xs after in
        subst P (sym (handed_on u xs maps ∙ r.1 ∙ ap (λ (zs : List Answer). zs ++ r.0) empty)) (ran_new r.0 g z after new r.2 handed)
    ended post (Ok u) (Err e) handed_on r maps = elim maps [ ]
    ended post (Err e) made handed_on r maps = rw maps (handed ∙ ap (λ (k : Monitor M D). k.memory) r.1 ∙ new.holds)
