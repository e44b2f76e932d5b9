-- Two runs side by side, by the laws.
use Rattle.std.proofs.Common.{ℕ, List, subst}
use Rattle.digest.specs.Meaning.{Meaning}
use Rattle.board.specs.declared.Call.{Call}
use Rattle.board.specs.State.{start}
use Rattle.board.specs.Steps.{Event, run}
use Rattle.board.specs.Beside.{OthersCannotTell, LivesAgree, EachRunKeeps, Side, left, right, of_side, KeptApart}
use Rattle.board.proofs.Proved.{laws}

module _ (h : Meaning) (key : List ℕ) where
  -- the events of calls made to a new monitor over these words
  abbrev events : List ℕ → List Call → List Event
  events words cs = run h key (start words) cs

  told : (words : List ℕ) (cs ds : List Call) → OthersCannotTell (events words cs) (events words ds)
  told words cs ds =
      let l = laws h in
      record { sight = l.sight key words cs ds; picking = l.choosing_hosts.picking key words cs ds; counting = l.choosing_hosts.counting key words cs ds }

  agree : (words others : List ℕ) (cs ds : List Call) → LivesAgree (events words cs) (events others ds)
  agree words others cs ds =
      let l = laws h in
      record { alike = l.lives.alike key words others cs ds; so_far = l.lives.so_far key words others cs ds; measured = l.measurements key key words others cs ds }

  keeps : (words : List ℕ) (cs : List Call) → EachRunKeeps h key (events words cs)
  keeps words cs =
      let l = laws h in
      record { unseen = l.choosing_hosts.unseen key words cs; still = l.lives.still key words cs; attested = l.attestations key words cs; ranges = l.ranges key words cs }

  module _ (words others : List ℕ) (cs ds : List Call) where
    both : (a b : Side) → LivesAgree (of_side a (events words cs) (events others ds)) (of_side b (events words cs) (events others ds))
    both left left = agree words words cs cs
    both left right = agree words others cs ds
    both right left = agree others words ds cs
    both right right = agree others others ds ds

    either : (a : Side) → EachRunKeeps h key (of_side a (events words cs) (events others ds))
    either left = keeps words cs
    either right = keeps others ds

    pub kept_apart : KeptApart h key words others (events words cs) (events others ds)
    kept_apart =
        let P : List ℕ → Type 0 = λ ws. OthersCannotTell (events words cs) (events ws ds) in
        record { sight = λ e. subst P e (told words cs ds); lives = both; each = either }
