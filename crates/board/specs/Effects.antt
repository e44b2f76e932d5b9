-- What each accepted call answers and changes.
use Rattle.std.specs.Prelude.{ℕ, ◌-◌, true, false, cond, List, [], ◌∷◌, ◌++◌, take, drop, replicate, ◌==◌, slice_index, slice_set}
use Rattle.digest.specs.Meaning.{Meaning, hash, hmac}
use Rattle.board.specs.declared.Board.{Board}
use Rattle.board.specs.declared.Enclave.{Enclave}
use Rattle.board.specs.declared.Entry.{Entry}
use Rattle.board.specs.declared.Context.{Context}
use Rattle.board.specs.declared.Phase.{Phase}
use Rattle.board.specs.declared.Phase.TheVariants.{Draft, Ready, Running, Paused}
use Rattle.board.specs.declared.Call.{Call}
use Rattle.board.specs.declared.Call.TheVariants.{Open, Add, Finish, Abandon, Destroy, Enter, Resume, Exit, Pause, Load, Store, Fetch, ReadRegister, WriteRegister, ReadMap, WriteMap, Attest}
use Rattle.board.specs.State.{State, blank, idle, absent, map_of, entry_of, enclave_of, page_of, place_of}
use Rattle.board.specs.Answers.{Reply, accepting, entry_words}
use Rattle.board.specs.Measures.{measured_words}

-- the answer to a call, and the state after it
pub record Outcome : Type 0 where
  pub reply : Reply
  pub state : State

abbrev pub accepted : List ℕ → State → Outcome
accepted ws s = record { reply = accepting ws; state = s }

-- ---- writes of one part

-- another board, the same words
abbrev pub on_board : State → Board → State
on_board s b = record { board = b; words = s.words }

-- the record of enclave e replaced; there is no enclave 0
abbrev pub with_enclave : Board → ℕ → Enclave → Board
with_enclave b e r =
    record { owners = b.owners; running = b.running; live = b.live; host = b.host; maps = b.maps; enclaves = cond (e == 0) b.enclaves (slice_set b.enclaves (e - 1) r) }

-- the map of party p replaced
abbrev pub with_map : Board → ℕ → List Entry → Board
with_map b p m = record { owners = b.owners; running = b.running; live = b.live; host = b.host; maps = slice_set b.maps p m; enclaves = b.enclaves }

-- the entry of party p for virtual page v replaced
abbrev pub with_entry : Board → ℕ → ℕ → Entry → Board
with_entry b p v t = with_map b p (slice_set (map_of b p) v t)

abbrev pub with_owners : Board → List ℕ → Board
with_owners b os = record { owners = os; running = b.running; live = b.live; host = b.host; maps = b.maps; enclaves = b.enclaves }

-- party p runs with a live context, and the host's is saved
abbrev pub switched : Board → ℕ → Context → Context → Board
switched b p live host = record { owners = b.owners; running = p; live = live; host = host; maps = b.maps; enclaves = b.enclaves }

-- the running party's live context replaced
abbrev pub with_live : Board → Context → Board
with_live b live = switched b b.running live b.host

-- a record in another phase
abbrev pub with_phase : Enclave → Phase → Enclave
with_phase r p = record { phase = p; first = r.first; count = r.count; entrypoint = r.entrypoint; measurement = r.measurement; saved = r.saved }

-- a record in another phase, with another saved context
abbrev pub with_saved : Enclave → Phase → Context → Enclave
with_saved r p x = record { phase = p; first = r.first; count = r.count; entrypoint = r.entrypoint; measurement = r.measurement; saved = x }

-- the running party's entry for address a, marked
abbrev pub marked : Board → ℕ → Board
marked b a =
    let t = entry_of b b.running (page_of a) in
    with_entry b b.running (page_of a) (record { frame = t.frame; permission = t.permission; accessed = true })

-- ---- building and removing

-- the record of a new draft
abbrev pub opened : ℕ → ℕ → ℕ → Enclave
opened first count entry = record { phase = Draft; first = first; count = count; entrypoint = entry; measurement = replicate 8 0; saved = idle }

-- an entry as add and write map set it: unmarked
abbrev pub unmarked : ℕ → ℕ → Entry
unmarked f permission = record { frame = f; permission = permission; accessed = false }

-- a finished record, with its measurement
abbrev pub finished : Enclave → List ℕ → Enclave
finished r m = record { phase = Ready; first = r.first; count = r.count; entrypoint = r.entrypoint; measurement = m; saved = r.saved }

-- the words, page by page, with those of every page of enclave e set to 0
abbrev pub cleared_words : List ℕ → ℕ → List ℕ → List ℕ
cleared_words [] e ws = []
cleared_words (o ∷ os) e ws = cond (o == e) (replicate 64 0) (take 64 ws) ++ cleared_words os e (drop 64 ws)

-- the owners, with every page of enclave e given to the host
abbrev pub released : List ℕ → ℕ → List ℕ
released [] e = []
released (o ∷ os) e = cond (o == e) 0 o ∷ released os e

-- the board with the pages of enclave e given to the host, its map and record as at first
abbrev pub forgotten : Board → ℕ → Board
forgotten b e = with_enclave (with_map (with_owners b (released b.owners e)) e blank) e absent

-- enclave e removed: its pages cleared and given to the host, its map and record as at first
abbrev pub removed : State → ℕ → State
removed s e = record { board = forgotten s.board e; words = cleared_words s.board.owners e s.words }

-- ---- the calls

abbrev pub effect : Meaning → List ℕ → Call → State → Outcome
effect h key (Open e first count entry) s = accepted [] (on_board s (with_enclave s.board e (opened first count entry)))
effect h key (Add e v f permission) s =
    accepted [] (on_board s (with_owners (with_entry s.board e v (unmarked f permission)) (slice_set s.board.owners f e)))
effect h key (Finish e) s =
    accepted [] (on_board s (with_enclave s.board e (finished (enclave_of s.board e) (hash h (measured_words s e)))))
effect h key (Abandon e) s = accepted [] (removed s e)
effect h key (Destroy e) s = accepted [] (removed s e)
effect h key (Enter e) s =
    let r = enclave_of s.board e in
    accepted [] (on_board s (switched (with_enclave s.board e (with_phase r Running)) e (record { pc = r.entrypoint; registers = replicate 8 0 }) s.board.live))
effect h key (Resume e) s =
    let r = enclave_of s.board e in
    accepted [] (on_board s (switched (with_enclave s.board e (with_saved r Running idle)) e r.saved s.board.live))
effect h key Exit s =
    let e = s.board.running in
    accepted [] (on_board s (switched (with_enclave s.board e (with_phase (enclave_of s.board e) Ready)) 0 s.board.host idle))
effect h key Pause s =
    let e = s.board.running in
    accepted [] (on_board s (switched (with_enclave s.board e (with_saved (enclave_of s.board e) Paused s.board.live)) 0 s.board.host idle))
effect h key (Load a) s = accepted (slice_index s.words (place_of s.board a) ∷ []) (on_board s (marked s.board a))
effect h key (Store a w) s = accepted [] (record { board = marked s.board a; words = slice_set s.words (place_of s.board a) w })
effect h key (Fetch a) s =
    accepted (slice_index s.words (place_of s.board a) ∷ []) (on_board s (with_live (marked s.board a) (record { pc = a; registers = s.board.live.registers })))
effect h key (ReadRegister n) s = accepted (slice_index s.board.live.registers n ∷ []) s
effect h key (WriteRegister n w) s =
    accepted [] (on_board s (with_live s.board (record { pc = s.board.live.pc; registers = slice_set s.board.live.registers n w })))
effect h key (ReadMap p v) s = accepted (entry_words (entry_of s.board p v)) s
effect h key (WriteMap p v f permission) s = accepted [] (on_board s (with_entry s.board p v (unmarked f permission)))
effect h key (Attest w) s =
    let m = (enclave_of s.board s.board.running).measurement in
    accepted (m ++ hmac h key (m ++ (w ∷ []))) s
