-- What every state that a run reaches has, from what each step keeps.
use Rattle.std.proofs.Common.{◌≡◌, ℕ, suc, List, [], ◌∷◌, ◌++◌, length, get_or, drop, refl, ap, subst₂, arith}
use Rattle.digest.specs.Meaning.{Meaning}
use Rattle.board.specs.State.{State}
use Rattle.board.specs.Steps.{step, Event, event, run}
use Rattle.board.specs.declared.Call.{Call}

-- the event of one call, and the rest of the run after it
pub record Reached (h : Meaning) (key : List ℕ) (I : State → Type 0) (x : Event) (later : List Event) : Type 0 where
  pub stepped : x ≡ event x.call x.before (step h key x.call x.before)
  pub kept : I x.before
  pub calls : List Call
  pub goes_on : later ≡ run h key x.after calls

-- an empty list is no list with a head
no_cons : (y : Event) (l : List Event) → [] ≡ y ∷ l → ⊥
no_cons y l e = let n : ◌≡◌ {A = ℕ} 0 (suc (length l)) = ap (λ (k : List Event). length k) e in omega arith

module _ (h : Meaning) (key : List ℕ) (I : State → Type 0) (keeps : (c : Call) (s : State) → I s → I (step h key c s).state) where
  pub reached : (cs : List Call) (s : State) (earlier : List Event) (x : Event) (later : List Event) → I s → run h key s cs ≡ earlier ++ (x ∷ later) → Reached h key I x later
  reached [] s [] x later i e = absurd (no_cons x later e)
  reached [] s (y ∷ ys) x later i e = absurd (no_cons y (ys ++ (x ∷ later)) e)
  reached (c ∷ cs) s [] x later i e =
      subst₂ (λ (y : Event) (l : List Event). Reached h key I y l) (ap (λ (l : List Event). get_or l 0 x) e) (ap (λ (l : List Event). drop 1 l) e)
      (record { stepped = refl; kept = i; calls = cs; goes_on = refl })
  reached (c ∷ cs) s (y ∷ ys) x later i e = reached cs (step h key c s).state ys x later (keeps c s i) (ap (λ (l : List Event). drop 1 l) e)
