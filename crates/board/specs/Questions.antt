-- The questions put to each call, in rising order. The first that is answered no gives its number.
use Rattle.std.specs.Prelude.{ℕ, Bool, true, false, cond, not, ◌&&◌, ◌||◌, List, [], ◌∷◌, length, ◌==◌, bit_and, nat_le, nat_lt}
use Rattle.board.specs.declared.Board.{Board}
use Rattle.board.specs.declared.Entry.{Entry}
use Rattle.board.specs.declared.Phase.{Phase}
use Rattle.board.specs.declared.Phase.TheVariants.{Absent, Draft, Ready, Running, Paused}
use Rattle.board.specs.declared.Call.{Call}
use Rattle.board.specs.declared.Call.TheVariants.{Open, Add, Finish, Abandon, Destroy, Enter, Resume, Exit, Pause, Load, Store, Fetch, ReadRegister, WriteRegister, ReadMap, WriteMap, Attest}
use Rattle.board.specs.State.{State, enclave_of, entry_of, owner_of, covers, inside, page_of}

pub record Question : Type 0 where
  pub number : ℕ
  pub yes : Bool

abbrev pub ask : ℕ → Bool → Question
ask n b = record { number = n; yes = b }

-- the number of the first question answered no, 0 if there is none
abbrev pub first_no : List Question → ℕ
first_no [] = 0
first_no (q ∷ qs) = cond q.yes (first_no qs) q.number

-- ---- what the questions ask

-- 2: the host runs
abbrev pub host_runs : Board → Bool
host_runs b = b.running == 0

-- 3: the number of an enclave
abbrev pub is_enclave_number : ℕ → Bool
is_enclave_number e = nat_le 1 e && nat_le e 8

-- 4: a row of the table of phases
abbrev pub by_phase : Bool → Bool → Bool → Bool → Bool → Phase → Bool
by_phase a d r n p Absent = a
by_phase a d r n p Draft = d
by_phase a d r n p Ready = r
by_phase a d r n p Running = n
by_phase a d r n p Paused = p

-- 4: the phases in which a call on an enclave may be made: absent, draft, ready, running, paused.
-- The calls that name no enclave have no such phase, and are not asked.
abbrev pub phase_suits : Call → Phase → Bool
phase_suits (Open e first count entry) p = by_phase true false false false false p
phase_suits (Add e v f permission) p = by_phase false true false false false p
phase_suits (Finish e) p = by_phase false true false false false p
phase_suits (Abandon e) p = by_phase false true false false false p
phase_suits (Destroy e) p = by_phase false false true false true p
phase_suits (Enter e) p = by_phase false false true false false p
phase_suits (Resume e) p = by_phase false false false false true p
phase_suits Exit p = false
phase_suits Pause p = false
phase_suits (Load a) p = false
phase_suits (Store a w) p = false
phase_suits (Fetch a) p = false
phase_suits (ReadRegister n) p = false
phase_suits (WriteRegister n w) p = false
phase_suits (ReadMap q v) p = by_phase false true true true true p
phase_suits (WriteMap q v f permission) p = by_phase false true true true true p
phase_suits (Attest w) p = false

-- 4: the phase of enclave e suits the call
abbrev pub in_phase_for : Call → Board → ℕ → Bool
in_phase_for c b e = phase_suits c (enclave_of b e).phase

-- 6: the entry permits a right: read 1, write 2, execute 4
abbrev pub permits : ℕ → Entry → Bool
permits right t = not (bit_and t.permission right == 0)

-- 8: whose page the running party has to reach at address a: its own, but an enclave outside its range the host's
abbrev pub rightful_owner : Board → ℕ → ℕ
rightful_owner b a = cond (inside b b.running (page_of a)) b.running 0

-- ---- the questions of each call

-- 6 and 8 of a load, store or fetch at address a
abbrev pub access_questions : Board → ℕ → ℕ → List Question
access_questions b right a =
    ask 6 (permits right (entry_of b b.running (page_of a)))
    ∷ ask 8 (owner_of b (entry_of b b.running (page_of a)).frame == rightful_owner b a)
    ∷ []

-- 4 and 5 of a map call on party p; the host's own map asks neither
abbrev pub map_questions : Call → Board → ℕ → ℕ → List Question
map_questions c b p v = cond (p == 0) [] (ask 4 (in_phase_for c b p) ∷ ask 5 (not (inside b p v)) ∷ [])

-- 2 to 4 of a call of the host on enclave e
abbrev pub record_questions : Call → Board → ℕ → List Question
record_questions c b e = ask 2 (host_runs b) ∷ ask 3 (is_enclave_number e) ∷ ask 4 (in_phase_for c b e) ∷ []

-- all but question 1, which is the same for each call
abbrev pub questions : Call → Board → List Question
questions (Open e first count entry) b =
    ask 2 (host_runs b)
    ∷ ask 3 (is_enclave_number e && covers first count (page_of entry))
    ∷ ask 4 (in_phase_for (Open e first count entry) b e)
    ∷ []
questions (Add e v f permission) b =
    ask 2 (host_runs b)
    ∷ ask 3 (is_enclave_number e && (nat_lt v 64 && (nat_lt f 64 && (nat_le 1 permission && nat_le permission 7))))
    ∷ ask 4 (in_phase_for (Add e v f permission) b e)
    ∷ ask 5 (inside b e v)
    ∷ ask 7 ((entry_of b e v).permission == 0)
    ∷ ask 8 (owner_of b f == 0)
    ∷ []
questions (Finish e) b =
    ask 2 (host_runs b)
    ∷ ask 3 (is_enclave_number e)
    ∷ ask 4 (in_phase_for (Finish e) b e)
    ∷ ask 6 (permits 4 (entry_of b e (page_of (enclave_of b e).entrypoint)))
    ∷ []
questions (Abandon e) b = record_questions (Abandon e) b e
questions (Destroy e) b = record_questions (Destroy e) b e
questions (Enter e) b = record_questions (Enter e) b e
questions (Resume e) b = record_questions (Resume e) b e
questions Exit b = ask 2 (not (host_runs b)) ∷ []
questions Pause b = ask 2 (not (host_runs b)) ∷ []
questions (Load a) b = ask 3 (nat_lt a 4096) ∷ access_questions b 1 a
questions (Store a w) b = ask 3 (nat_lt a 4096) ∷ access_questions b 2 a
questions (Fetch a) b = ask 3 (nat_lt a 4096) ∷ ask 5 (host_runs b || inside b b.running (page_of a)) ∷ access_questions b 4 a
questions (ReadRegister n) b = ask 3 (nat_lt n 8) ∷ []
questions (WriteRegister n w) b = ask 3 (nat_lt n 8) ∷ []
questions (ReadMap p v) b = ask 2 (host_runs b) ∷ ask 3 (nat_le p 8 && nat_lt v 64) ∷ map_questions (ReadMap p v) b p v
questions (WriteMap p v f permission) b =
    ask 2 (host_runs b)
    ∷ ask 3 (nat_le p 8 && (nat_lt v 64 && (nat_lt f 64 && nat_le permission 7)))
    ∷ map_questions (WriteMap p v f permission) b p v
questions (Attest w) b = ask 2 (not (host_runs b)) ∷ []

-- 1: the memory has exactly 4,096 words
abbrev pub is_whole : List ℕ → Bool
is_whole ws = length ws == 4096

-- the number of a call: 0 if it is accepted
abbrev pub decision : Call → State → ℕ
decision c s = first_no (ask 1 (is_whole s.words) ∷ questions c s.board)
