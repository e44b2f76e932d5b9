-- What an accepted call was asked, and a step as its two cases.
use Rattle.std.proofs.Common.{◌≡◌, ℕ, ◌≤◌, Bool, true, false, cond, not, eqb, leb, List, [], ◌∷◌, length, refl, subst, arith}
use Rattle.std.proofs.lemmas.Bool.{eqb-true, eqb-false, cond-false, ne_eqb, cond_both, and_parts, and_from, leb-true, not-true, le-leb}
use Rattle.digest.specs.Meaning.{Meaning}
use Rattle.board.specs.Answers.{declining}
use Rattle.board.specs.Effects.{Outcome, effect}
use Rattle.board.specs.Questions.{Question, ask, first_no, host_runs, is_enclave_number, in_phase_for, map_questions, questions, decision}
use Rattle.board.specs.State.{State, inside}
use Rattle.board.specs.Steps.{step}
use Rattle.board.specs.declared.Board.{Board}
use Rattle.board.specs.declared.Call.{Call}
use Rattle.board.specs.declared.Call.TheVariants.{Open, Add, Finish, Abandon, Destroy, Enter, Resume, Exit, Pause, Load, Store, Fetch, ReadRegister, WriteRegister, ReadMap, WriteMap, Attest}

abbrev pub Yes : List Question → Type 0
Yes [] = Unit {0}
Yes (q ∷ qs) = (q.yes ≡ true) × Yes qs

abbrev pub Numbered : List Question → Type 0
Numbered [] = Unit {0}
Numbered (q ∷ qs) = (1 ≤ q.number) × Numbered qs

pub all_yes : (qs : List Question) → Numbered qs → first_no qs ≡ 0 → Yes qs
all_yes [] n e = tt
all_yes (q ∷ qs) n e = go (λ z. all_yes qs n.1 z) q.yes refl e
  where
    go : (first_no qs ≡ 0 → Yes qs) → (b : Bool) → q.yes ≡ b → cond b (first_no qs) q.number ≡ 0 → (q.yes ≡ true) × Yes qs
    go more true y z = (y, more z)
    go more false y z = absurd (let k = n.0 in omega arith)

numbered_map : (c : Call) (b : Board) (p v : ℕ) → Numbered (map_questions c b p v)
numbered_map c b p v = cond_both (eqb p 0) [] _ Numbered (λ _. tt) (λ _. (omega arith, (omega arith, tt)))

pub numbered : (c : Call) (b : Board) → Numbered (questions c b)
numbered (Open e first count entry) b = (omega arith, (omega arith, (omega arith, tt)))
numbered (Add e v f permission) b = (omega arith, (omega arith, (omega arith, (omega arith, (omega arith, (omega arith, tt))))))
numbered (Finish e) b = (omega arith, (omega arith, (omega arith, (omega arith, tt))))
numbered (Abandon e) b = (omega arith, (omega arith, (omega arith, tt)))
numbered (Destroy e) b = (omega arith, (omega arith, (omega arith, tt)))
numbered (Enter e) b = (omega arith, (omega arith, (omega arith, tt)))
numbered (Resume e) b = (omega arith, (omega arith, (omega arith, tt)))
numbered Exit b = (omega arith, tt)
numbered Pause b = (omega arith, tt)
numbered (Load a) b = (omega arith, (omega arith, (omega arith, tt)))
numbered (Store a w) b = (omega arith, (omega arith, (omega arith, tt)))
numbered (Fetch a) b = (omega arith, (omega arith, (omega arith, (omega arith, tt))))
numbered (ReadRegister n) b = (omega arith, tt)
numbered (WriteRegister n w) b = (omega arith, tt)
numbered (ReadMap p v) b = (omega arith, (omega arith, numbered_map (ReadMap p v) b p v))
numbered (WriteMap p v f permission) b = (omega arith, (omega arith, numbered_map (WriteMap p v f permission) b p v))
numbered (Attest w) b = (omega arith, tt)

-- what an accepted call was asked, the length of the words first
abbrev pub Allowed : Call → State → Type 0
Allowed c s = (length s.words ≡ 4096) × Yes (questions c s.board)

pub allowed : (c : Call) (s : State) → decision c s ≡ 0 → Allowed c s
allowed c s e =
    let y = all_yes (ask 1 (eqb (length s.words) 4096) ∷ questions c s.board) (omega arith, numbered c s.board) e in
    (eqb-true (length s.words) 4096 y.0, y.1)

-- a step is an effect or a decline
pub step_is : (P : Outcome → Type 0) (h : Meaning) (key : List ℕ) (c : Call) (s : State) → (decision c s ≡ 0 → P (effect h key c s))
    → ((decision c s ≡ 0 → ⊥) → P (record { reply = declining (decision c s); state = s })) → P (step h key c s)
step_is P h key c s taken left =
    cond_both (eqb (decision c s) 0) (effect h key c s) (record { reply = declining (decision c s); state = s }) P
    (λ q. taken (eqb-true (decision c s) 0 q)) (λ q. left (eqb-false (decision c s) 0 q))

pub step_cases : (h : Meaning) (key : List ℕ) (c : Call) (s : State) (P : Outcome → Type 0) → (Allowed c s → P (effect h key c s))
    → ((decision c s ≡ 0 → ⊥) → P (record { reply = declining (decision c s); state = s })) → P (step h key c s)
step_cases h key c s P taken left = step_is P h key c s (λ z. taken (allowed c s z)) left

-- ---- what single questions say

pub from_one : (e : ℕ) → is_enclave_number e ≡ true → 1 ≤ e
from_one e i = leb-true 1 e (and_parts (leb 1 e) (leb e 8) i).0

pub up_to_eight : (e : ℕ) → is_enclave_number e ≡ true → e ≤ 8
up_to_eight e i = leb-true e 8 (and_parts (leb 1 e) (leb e 8) i).1

pub enclave_is : (d : ℕ) → 1 ≤ d → d ≤ 8 → is_enclave_number d ≡ true
enclave_is d lo hi = and_from (leb 1 d) (leb d 8) (le-leb 1 d lo) (le-leb d 8 hi)

pub host_zero : (b : Board) → host_runs b ≡ true → b.running ≡ 0
host_zero b h = eqb-true b.running 0 h

-- the host runs, so e does not
pub host_not : (b : Board) (e : ℕ) → 1 ≤ e → host_runs b ≡ true → b.running ≡ e → ⊥
host_not b e l h q = let z = host_zero b h in omega arith

pub guest_from_one : (b : Board) → not (host_runs b) ≡ true → 1 ≤ b.running
guest_from_one b h = let z = eqb-false b.running 0 (not-true (host_runs b) h) in omega arith

-- what a map call on an enclave was asked
pub map_asked : (c : Call) (b : Board) (p v : ℕ) → 1 ≤ p → Yes (map_questions c b p v) → (in_phase_for c b p ≡ true) × (not (inside b p v) ≡ true)
map_asked c b p v lo a =
    let k = subst Yes (cond-false (eqb p 0) [] (ask 4 (in_phase_for c b p) ∷ ask 5 (not (inside b p v)) ∷ []) (ne_eqb p 0 (λ q. omega arith))) a in
    (k.0, k.1.0)
