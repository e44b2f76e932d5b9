-- One call more at the front of a run.
use Rattle.std.proofs.Common.{◌≡◌, ℕ, ◌+◌, ◌<◌, ◌≤◌, List, [], ◌∷◌, ◌++◌, length, get_or, drop, Ok, sym, refl, ap, ◌∙◌, subst, ap₂, append_assoc, append-nil}
use Rattle.std.proofs.lemmas.List.{drop_more, at_drop_all}
use Rattle.memory.specs.declared.Memory
use Rattle.digest.specs.Meaning.{Meaning}
use Rattle.board.specs.declared.Answer.{Answer}
use Rattle.board.specs.declared.Call.{Call}
use Rattle.board.specs.State.{State}
use Rattle.board.specs.Answers.{Reply, reply_of}
use Rattle.board.specs.Effects.{Outcome}
use Rattle.board.specs.Steps.{run, replies, step}
use Rattle.monitor.specs.declared.Monitor.{Monitor}
use Rattle.monitor.specs.Gate.{Does, state_of}
use Rattle.runs.specs.Runs.{AddsRun, Ran, states}

module _ {M D : Type 0} (m : Memory.Ghosts M) (h : Meaning) where
  ran_more : (c : Call) (cs : List Call) (g k z : Monitor M D) (a : Answer) (xs : List Answer) → Does m h c g (reply_of a) k → Ran m h cs k xs z → Ran m h (c ∷ cs) g (a ∷ xs) z
  ran_more c cs g k z a xs d r =
      let after : (step h g.key c (state_of m g)).state ≡ state_of m k = ap (λ (o : Outcome). o.state) d.stepped in
      let reply : (step h g.key c (state_of m g)).reply ≡ reply_of a = ap (λ (o : Outcome). o.reply) d.stepped in
      let rest : run h k.key (state_of m k) cs ≡ run h g.key (step h g.key c (state_of m g)).state cs =
      ap₂ (λ (key : List ℕ) (s : State). run h key s cs) d.same_key (sym after) in
      record {
        monitors = k ∷ r.monitors;
        each = (d, r.each);
        last = r.last;
        answers = ap₂ (λ (x : Reply) (ys : List Reply). x ∷ ys) (sym reply) (r.answers ∙ ap replies rest);
        states_are = ap₂ (λ (x : State) (ys : List State). x ∷ ys) (sym after) (r.states_are ∙ ap states rest);
      }

  -- What is left of the calls, made from k on, adds to the answers so far what all of them, made from g on, add to the earlier
  -- answers.
  pub record GoesOn (all : List Call) (g : Monitor M D) (earlier : List Answer) (left : List Call) (k : Monitor M D) (now : List Answer) : Type 0 where
    pub ends : (z : Monitor M D) (later : List Answer) → AddsRun m h left k now (Ok tt) z later → AddsRun m h all g earlier (Ok tt) z later

  module _ (all : List Call) (g : Monitor M D) (earlier : List Answer) (i : ℕ) (k : Monitor M D) (now : List Answer) (on : GoesOn all g earlier (drop i all) k now) where
    pub stopped : length all ≤ i → AddsRun m h all g earlier (Ok tt) k now
    stopped e =
        let P : List Call → Type 0 = λ cs. AddsRun m h cs k now (Ok tt) k now in
        on.ends k now (subst P (sym (at_drop_all (λ cs. cs) all i e)) ([], sym (append-nil now), record { monitors = []; each = tt; last = refl; answers = refl; states_are = refl }))

    -- after one call more
    pub one_more : (c : Call) (a : Answer) (k' : Monitor M D) (then : List Answer) → i < length all → Does m h (get_or all i c) k (reply_of a) k' → then ≡ now ++ (a ∷ []) → GoesOn all g earlier (drop (i + 1) all) k' then
    one_more c a k' then l d e =
        record {
          ends = λ z later r.
              let P : List Call → Type 0 = λ cs. AddsRun m h cs k now (Ok tt) z later in
              on.ends z later (subst P (sym (drop_more all i c l)) (
                a ∷ r.0,
                r.1 ∙ ap (λ (xs : List Answer). xs ++ r.0) e ∙ append_assoc now (a ∷ []) r.0,
                ran_more (get_or all i c) (drop (i + 1) all) k k' z a r.0 d r.2,
              ));
        }
