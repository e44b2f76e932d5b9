-- The inward calls of an enclave, from the calls and answers of a run alone.
use Rattle.std.specs.Prelude.{◌≡◌, ℕ, Bool, true, false, cond, ◌&&◌, List, [], ◌∷◌, ◌++◌, map, ◌==◌}
use Rattle.digest.specs.Meaning.{Meaning}
use Rattle.board.specs.declared.Call.{Call}
use Rattle.board.specs.declared.Call.TheVariants.{Open, Add, Finish, Abandon, Destroy, Enter, Resume, Exit, Pause, Load, Store, Fetch, ReadRegister, WriteRegister, ReadMap, WriteMap, Attest}
use Rattle.board.specs.State.{start, covers, page_of}
use Rattle.board.specs.Answers.{Reply}
use Rattle.board.specs.Steps.{run, replies}
use Rattle.board.specs.Kinds.{Kind, destroying, entering, resuming, leaving, accessing, plain, kind_of}
use Rattle.board.specs.Sight.{inward}
use Rattle.sight.specs.declared.watch.Watch.{Watch}

-- the host runs, and no enclave has a range
abbrev pub at_start : Watch
at_start = record { running = 0; first = 0; count = 0 }

-- the same range, and party p runs
abbrev pub with_running : Watch → ℕ → Watch
with_running w p = record { running = p; first = w.first; count = w.count }

-- the same party runs, and the range is another
abbrev pub with_range : Watch → ℕ → ℕ → Watch
with_range w first count = record { running = w.running; first = first; count = count }

-- of the calls while the enclave runs, the inward ones: all but exit and pause, and loads and stores outside its range
abbrev pub inward_kind : Watch → Kind → Bool
inward_kind w (destroying e) = true
inward_kind w (entering e) = true
inward_kind w (resuming e) = true
inward_kind w leaving = false
inward_kind w (accessing a) = covers w.first w.count (page_of a)
inward_kind w plain = true

-- an inward call of enclave e
abbrev pub is_inward_to : ℕ → Watch → Call → Bool
is_inward_to e w c = w.running == e && inward_kind w (kind_of c)

-- after an accepted call
abbrev pub accepted_by : ℕ → Watch → Call → Watch
accepted_by e w (Open d first count entry) = cond (d == e) (with_range w first count) w
accepted_by e w (Add d v f permission) = w
accepted_by e w (Finish d) = w
accepted_by e w (Abandon d) = cond (d == e) (with_range w 0 0) w
accepted_by e w (Destroy d) = cond (d == e) (with_range w 0 0) w
accepted_by e w (Enter d) = with_running w d
accepted_by e w (Resume d) = with_running w d
accepted_by e w Exit = with_running w 0
accepted_by e w Pause = with_running w 0
accepted_by e w (Load a) = w
accepted_by e w (Store a x) = w
accepted_by e w (Fetch a) = w
accepted_by e w (ReadRegister n) = w
accepted_by e w (WriteRegister n x) = w
accepted_by e w (ReadMap p v) = w
accepted_by e w (WriteMap p v f permission) = w
accepted_by e w (Attest x) = w

-- after a call with this answer; a declined call changes nothing
abbrev pub next_of : ℕ → Watch → Call → Reply → Watch
next_of e w c r = cond (r.number == 0) (accepted_by e w c) w

-- a mark for each call that was answered: whether it is an inward one of enclave e
abbrev pub marks_from : ℕ → Watch → List Call → List Reply → List Bool
marks_from e w cs [] = []
marks_from e w [] (r ∷ rs) = []
marks_from e w (c ∷ cs) (r ∷ rs) = is_inward_to e w c ∷ marks_from e (next_of e w c r) cs rs

-- if the answers are those of a run of the first of these calls, the marks say which of its events are inward calls of e
abbrev pub TellsInwardCalls : Meaning → ℕ → List Call → List Reply → List Bool → Type 0
TellsInwardCalls h e calls answers marks =
    (key words : List ℕ) (cs more : List Call)
    → calls ≡ cs ++ more
    → answers ≡ replies (run h key (start words) cs)
    → marks ≡ map (inward e) (run h key (start words) cs)
