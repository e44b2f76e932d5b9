-- Runs that meet the premises of the laws: the laws do not speak of nothing.
use Rattle.std.specs.Prelude.{◌≡◌, ℕ, cond, List, [], ◌∷◌, ◌++◌, map, length, take, drop, replicate, ◌==◌, slice_index, slice_index_or}
use Rattle.digest.specs.Fold.{fold_meaning}
use Rattle.board.specs.declared.Call.{Call}
use Rattle.board.specs.declared.Call.TheVariants.{Open, Add, Finish, Destroy, Enter, Resume, Exit, Pause, Load, Store, ReadRegister, WriteRegister, ReadMap, WriteMap, Attest}
use Rattle.board.specs.State.{State, start, entry_of}
use Rattle.board.specs.Answers.{Reply, accepting, declining}
use Rattle.board.specs.Measures.{measured_words}
use Rattle.board.specs.Steps.{Event, run, replies, ended}
use Rattle.board.specs.Sight.{DifferOnlyInward, Sighting, sightings, PickedBy, all_noticed, Choice, turn, picked, ChosenBy}
use Rattle.board.specs.Lives.{Life, own_events, Own, entered, resumed, made, own_calls, outside_answers, private, Alike, AlikeSoFar}
use Rattle.board.specs.Measurements.{BuiltAlike}

-- these calls to a new monitor over these words, with the fold and a key of zeros
abbrev pub events : List ℕ → List Call → List Event
events words cs = run fold_meaning (replicate 8 0) (start words) cs

abbrev pub zeros : List ℕ
zeros = replicate 4096 0

-- ---- two secrets

-- enclave 1 of pages 10 and 11 is built in frames 2 and 3 and entered
abbrev pub built : List Call
built = Open 1 10 2 640 ∷ Add 1 10 2 5 ∷ Add 1 11 3 3 ∷ Finish 1 ∷ Enter 1 ∷ []

-- it stores a secret inside its range and keeps it in a register
abbrev pub hides : ℕ → List Call
hides secret = Store 704 secret ∷ WriteRegister 3 secret ∷ []

-- it is paused, and the host looks everywhere: at the registers, at its map inside and outside the range, at its frame, before and after it is destroyed
abbrev pub looks : List Call
looks = Pause ∷ ReadRegister 3 ∷ ReadMap 1 11 ∷ ReadMap 1 0 ∷ WriteMap 0 0 3 1 ∷ Load 0 ∷ Destroy 1 ∷ Load 0 ∷ []

abbrev pub secret_calls : ℕ → List Call
secret_calls secret = built ++ (hides secret ++ looks)

abbrev pub secret_events : ℕ → List Event
secret_events secret = events zeros (secret_calls secret)

-- the state once the enclave is paused
abbrev pub hidden_state : ℕ → State
hidden_state secret = ended (start zeros) (events zeros (take 8 (secret_calls secret)))

-- what the host is answered from the pause on: it reads 0 in the register, may not read the map inside the range, may not
-- read the frame, and once the enclave is destroyed reads 0 there
abbrev pub host_is_told : List Reply
host_is_told =
    accepting [] ∷ accepting (0 ∷ []) ∷ declining 5 ∷ accepting (0 ∷ 0 ∷ 0 ∷ []) ∷ accepting [] ∷ declining 8 ∷ accepting [] ∷ accepting (0 ∷ []) ∷ []

-- The runs of two secrets differ only inward, and in private states, but not in what others are told and see.
pub record TwoSecretsLookAlike : Type 0 where
  pub differ : DifferOnlyInward 1 (secret_events 7) (secret_events 9)
  pub private_differs : private 1 (hidden_state 7) ≡ private 1 (hidden_state 9) → ⊥
  pub told : drop 7 (replies (secret_events 7)) ≡ host_is_told
  pub same : sightings 1 (secret_events 7) ≡ sightings 1 (secret_events 9)

-- ---- hosts that choose

-- the number of the last answer that others were given, 0 if there is none
abbrev pub last_number : List Sighting → ℕ
last_number [] = 0
last_number (x ∷ xs) = slice_index (map (λ (r : Reply). r.number) x.answered) 0

-- The host builds the enclave and looks; by its plan it would exit in place of the destroy.
abbrev pub plan : List Call
plan = built ++ (Pause ∷ ReadRegister 3 ∷ ReadMap 1 11 ∷ ReadMap 1 0 ∷ WriteMap 0 0 3 1 ∷ Load 0 ∷ Exit ∷ Load 0 ∷ [])

-- But where it was just told that a page is not its own, it destroys enclave 1.
abbrev pub pick : List Sighting → Call
pick past = cond (last_number past == 8) (Destroy 1) (slice_index_or plan (length past) Exit)

-- another secret, hidden by more inward calls
abbrev pub busier_events : List Event
busier_events = events zeros (built ++ (hides 9 ++ (Load 704 ∷ Attest 1 ∷ looks)))

-- a host that gives the enclave two turns and then goes on
abbrev pub choose : List Sighting → Choice
choose past = slice_index_or (map picked built ++ (turn ∷ turn ∷ map picked looks)) (length past) turn

-- Runs of two secrets, with two inward calls and with four, are picked by one host, and noticed alike; and two are chosen by another.
pub record HostsChooseAlike : Type 0 where
  pub quick_picked : PickedBy pick 1 [] (secret_events 7)
  pub busy_picked : PickedBy pick 1 [] busier_events
  pub noticed_alike : all_noticed 1 [] (secret_events 7) ≡ all_noticed 1 [] busier_events
  pub seven_chosen : ChosenBy choose 1 [] (secret_events 7)
  pub nine_chosen : ChosenBy choose 1 [] (secret_events 9)
  pub seen_alike : sightings 1 (secret_events 7) ≡ sightings 1 (secret_events 9)

-- ---- a life led twice

-- the host puts 77 into its frame 5, builds enclave 1 in frames 2 and 3, and lets it reach frame 5 by page 0
abbrev pub one_life : List Call
one_life =
    WriteMap 0 0 5 3 ∷ Store 0 77 ∷ Open 1 10 2 640 ∷ Add 1 10 2 5 ∷ Add 1 11 3 3 ∷ WriteMap 1 0 5 1 ∷ Finish 1
    ∷ Enter 1 ∷ Load 0 ∷ Store 704 8 ∷ Pause ∷ Resume 1 ∷ Load 704 ∷ Attest 6 ∷ Exit ∷ []

-- other words to begin with: 1 in all frames but 20 and 30
abbrev pub other_words : List ℕ
other_words = replicate 1280 1 ++ (replicate 64 0 ++ (replicate 576 1 ++ (replicate 64 0 ++ replicate 2112 1)))

-- the same life as enclave 4, in frames 30 and 20, added in the other order; 77 is in frame 9; while it is paused, enclave 1 is built and runs
abbrev pub other_life : List Call
other_life =
    Open 4 10 2 640 ∷ Add 4 11 20 3 ∷ WriteMap 4 0 9 1 ∷ Add 4 10 30 5 ∷ WriteMap 0 1 9 2 ∷ Store 64 77 ∷ Finish 4
    ∷ Load 5 ∷ Enter 4 ∷ Load 0 ∷ Store 704 8 ∷ Pause
    ∷ Open 1 0 1 0 ∷ Add 1 0 40 7 ∷ Finish 1 ∷ Enter 1 ∷ Store 0 1 ∷ Exit
    ∷ Resume 4 ∷ Load 704 ∷ Attest 6 ∷ Exit ∷ Destroy 4 ∷ []

-- the own calls of both
abbrev pub led : List Own
led = entered ∷ made (Load 0) ∷ made (Store 704 8) ∷ made Pause ∷ resumed ∷ made (Load 704) ∷ made (Attest 6) ∷ made Exit ∷ []

-- Two lives under two numbers, over other words, at other frames, meet the premises and are alike.
pub record ALifeIsLedTwice : Type 0 where
  pub one : Life 1 (events zeros one_life)
  pub other : Life 4 (events other_words other_life)
  pub measured : measured_words one.finish.before 1 ≡ measured_words other.finish.before 4
  pub one_led : own_calls 1 (own_events one) ≡ led
  pub other_led : own_calls 4 (own_events other) ≡ led
  pub one_outside : outside_answers 1 (own_events one) ≡ accepting (77 ∷ []) ∷ []
  pub other_outside : outside_answers 4 (own_events other) ≡ accepting (77 ∷ []) ∷ []
  -- every own call is accepted, the attest too
  pub accepted : map (λ (r : Reply). r.number) (replies (own_events one)) ≡ replicate 8 0
  pub alike : Alike one other
  pub built_alike : BuiltAlike 1 4 one.finish.before other.finish.before
  -- but the frames of page 10 are not the same
  pub at_one : (entry_of one.finish.before.board 1 10).frame ≡ 2
  pub at_other : (entry_of other.finish.before.board 4 10).frame ≡ 30

-- A life that a run's end cuts short at the pause is alike as far as it goes.
pub record ALifeIsCutShort : Type 0 where
  pub short : Life 1 (events zeros (take 11 one_life))
  pub long : Life 4 (events other_words other_life)
  pub short_led : own_calls 1 (own_events short) ≡ take 4 led
  pub so_far : AlikeSoFar short long
