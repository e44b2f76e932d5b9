-- What others see of a run, and the law of sight: what enclave e does inward, nobody else can tell.
use Rattle.std.specs.Prelude.{◌≡◌, ℕ, suc, ◌/◌, Bool, true, false, cond, not, ◌&&◌, ◌⊎◌, ◌↔◌, List, [], ◌∷◌, length, ◌==◌, ◌≢◌, slice_index}
use Rattle.digest.specs.Meaning.{Meaning}
use Rattle.board.specs.declared.Board.{Board}
use Rattle.board.specs.declared.Entry.{Entry}
use Rattle.board.specs.declared.Call.{Call}
use Rattle.board.specs.State.{State, idle, unmapped, start, map_of, entry_of, enclave_of, owner_of, inside, page_of}
use Rattle.board.specs.Answers.{Reply}
use Rattle.board.specs.Questions.{is_enclave_number}
use Rattle.board.specs.Effects.{with_enclave, with_map, with_saved, switched}
use Rattle.board.specs.Steps.{Event, run, ended}
use Rattle.board.specs.Kinds.{Kind, destroying, entering, resuming, leaving, accessing, plain, kind_of}

-- ---- outward and inward calls

-- address a is outside the range of the running enclave; every address of 4,096 or more is
abbrev pub is_outside : Board → ℕ → Bool
is_outside b a = not (inside b b.running (page_of a))

-- while an enclave runs, exit and pause are outward, and so are loads and stores at an address outside its range
abbrev pub outward_kind : Board → Kind → Bool
outward_kind b (destroying e) = false
outward_kind b (entering e) = false
outward_kind b (resuming e) = false
outward_kind b leaving = true
outward_kind b (accessing a) = is_outside b a
outward_kind b plain = false

-- every other call while it runs is inward, accepted or declined
abbrev pub outward : Board → Call → Bool
outward b c = outward_kind b (kind_of c)

-- an inward call of enclave e
abbrev pub inward : ℕ → Event → Bool
inward e x = x.before.board.running == e && not (outward x.before.board x.call)

-- two runs are equally long and equal at each place, save that one inward call of e may stand for another
abbrev pub DifferOnlyInward : ℕ → List Event → List Event → Type 0
DifferOnlyInward e [] [] = Unit {0}
DifferOnlyInward e [] (y ∷ ys) = ⊥
DifferOnlyInward e (x ∷ xs) [] = ⊥
DifferOnlyInward e (x ∷ xs) (y ∷ ys) = ((x.call ≡ y.call) ⊎ ((inward e x ≡ true) × (inward e y ≡ true))) × DifferOnlyInward e xs ys

-- ---- what others see

-- the words from place n on, with those of the pages of enclave e as 0
abbrev pub seen_words : Board → ℕ → ℕ → List ℕ → List ℕ
seen_words b e n [] = []
seen_words b e n (w ∷ ws) = cond (owner_of b (n / 64) == e) 0 w ∷ seen_words b e (suc n) ws

-- the entries of enclave e from page v on, with those inside its range as entries of nothing
abbrev pub seen_entries : Board → ℕ → ℕ → List Entry → List Entry
seen_entries b e v [] = []
seen_entries b e v (t ∷ ts) = cond (inside b e v) unmapped t ∷ seen_entries b e (suc v) ts

-- the board without what is hidden of enclave e: its map inside its range, its saved context, and the live one while it runs
abbrev pub seen_board : ℕ → Board → Board
seen_board e b =
    let r = enclave_of b e in
    let shown = with_map (with_enclave b e (with_saved r r.phase idle)) e (seen_entries b e 0 (map_of b e)) in
    switched shown b.running (cond (b.running == e) idle b.live) b.host

-- all that others than enclave e see of a state: the words of its pages are hidden too, and nothing else is
abbrev pub seen : ℕ → State → State
seen e s = record { board = seen_board e s.board; words = seen_words s.board e 0 s.words }

-- what is seen, part by part
pub record LooksTheSame (e : ℕ) (s t : State) : Type 0 where
  pub owners : s.board.owners ≡ t.board.owners
  pub running : s.board.running ≡ t.board.running
  pub host : s.board.host ≡ t.board.host
  pub live : (s.board.running ≢ e) → s.board.live ≡ t.board.live
  pub sizes : length s.words ≡ length t.words
  pub words : (n : ℕ) → (owner_of s.board (n / 64) ≢ e) → slice_index s.words n ≡ slice_index t.words n
  pub maps : (p : ℕ) → (p ≢ e) → map_of s.board p ≡ map_of t.board p
  pub outside : (v : ℕ) → inside s.board e v ≡ false → entry_of s.board e v ≡ entry_of t.board e v
  pub enclaves : (d : ℕ) → is_enclave_number d ≡ true → (d ≢ e) → enclave_of s.board d ≡ enclave_of t.board d
  pub phase : (enclave_of s.board e).phase ≡ (enclave_of t.board e).phase
  pub first : (enclave_of s.board e).first ≡ (enclave_of t.board e).first
  pub count : (enclave_of s.board e).count ≡ (enclave_of t.board e).count
  pub entrypoint : (enclave_of s.board e).entrypoint ≡ (enclave_of t.board e).entrypoint
  pub measurement : (enclave_of s.board e).measurement ≡ (enclave_of t.board e).measurement

-- the state that these calls leave of a new monitor over these words
abbrev pub left_by : Meaning → List ℕ → List ℕ → List Call → State
left_by h key words cs = ended (start words) (run h key (start words) cs)

-- of any two runs with a digest of this meaning: the states they leave are seen alike exactly when all these parts are equal
abbrev pub NothingElseIsHidden : Meaning → Type 0
NothingElseIsHidden h =
    (key other_key words others : List ℕ) (cs ds : List Call) (e : ℕ)
    → is_enclave_number e ≡ true
    → (seen e (left_by h key words cs) ≡ seen e (left_by h other_key others ds)) ↔ LooksTheSame e (left_by h key words cs) (left_by h other_key others ds)

-- what others are answered to one call, which is nothing if it is an inward call of e, and what they see after it
pub record Sighting : Type 0 where
  pub answered : List Reply
  pub after : State

abbrev pub sighting : ℕ → Event → Sighting
sighting e x = record { answered = cond (inward e x) [] (x.reply ∷ []); after = seen e x.after }

-- call by call, what others are answered and see
abbrev pub sightings : ℕ → List Event → List Sighting
sightings e [] = []
sightings e (x ∷ xs) = sighting e x ∷ sightings e xs

-- ---- the law

-- of two runs: if they differ only in inward calls of an enclave, others are answered and see the same throughout
abbrev pub OthersSeeTheSame : List Event → List Event → Type 0
OthersSeeTheSame xs ys = (e : ℕ) → is_enclave_number e ≡ true → DifferOnlyInward e xs ys → sightings e xs ≡ sightings e ys

-- of all runs with a digest of this meaning that begin on equal words
abbrev pub LawOfSight : Meaning → Type 0
LawOfSight h = (key words : List ℕ) (cs ds : List Call) → OthersSeeTheSame (run h key (start words) cs) (run h key (start words) ds)

-- ---- hosts that choose

-- every inward call of e leaves what others see as it was
abbrev pub GoUnseen : ℕ → List Event → Type 0
GoUnseen e [] = Unit {0}
GoUnseen e (x ∷ xs) = (inward e x ≡ true → seen e x.after ≡ seen e x.before) × GoUnseen e xs

-- what others have noticed after one more event: an inward call of e adds nothing; the latest comes first
abbrev pub noticed : ℕ → Event → List Sighting → List Sighting
noticed e x past = cond (inward e x) past (sighting e x ∷ past)

-- after a whole run
abbrev pub all_noticed : ℕ → List Sighting → List Event → List Sighting
all_noticed e past [] = past
all_noticed e past (x ∷ xs) = all_noticed e (noticed e x past) xs

-- every call that is not an inward one of e is picked from what others have noticed so far
abbrev pub PickedBy : (List Sighting → Call) → ℕ → List Sighting → List Event → Type 0
PickedBy pick e past [] = Unit {0}
PickedBy pick e past (x ∷ xs) = (inward e x ≡ false → x.call ≡ pick past) × PickedBy pick e (noticed e x past) xs

-- Of two runs: if one function picks all calls but the inward ones of e, and others notice equally many calls, then they
-- notice the same, whatever and however often e calls inward.
abbrev pub APickingHostNoticesTheSame : List Event → List Event → Type 0
APickingHostNoticesTheSame xs ys =
    (e : ℕ)
    → is_enclave_number e ≡ true
    → (pick : List Sighting → Call)
    → PickedBy pick e [] xs
    → PickedBy pick e [] ys
    → length (all_noticed e [] xs) ≡ length (all_noticed e [] ys)
    → all_noticed e [] xs ≡ all_noticed e [] ys

-- what a host that also counts inward calls chooses next: a turn of e for one inward call, or this call
pub data Choice : Type 0 where
  turn : Choice
  picked : Call → Choice

abbrev pub AsChosen : ℕ → Choice → Event → Type 0
AsChosen e turn x = inward e x ≡ true
AsChosen e (picked c) x = x.call ≡ c

-- every call is as chosen from all sightings before it, the latest first
abbrev pub ChosenBy : (List Sighting → Choice) → ℕ → List Sighting → List Event → Type 0
ChosenBy choose e past [] = Unit {0}
ChosenBy choose e past (x ∷ xs) = AsChosen e (choose past) x × ChosenBy choose e (sighting e x ∷ past) xs

-- of two runs: chosen by one function and equally long, they are seen alike throughout, whatever e does in its turns
abbrev pub ACountingHostSeesTheSame : List Event → List Event → Type 0
ACountingHostSeesTheSame xs ys =
    (e : ℕ)
    → is_enclave_number e ≡ true
    → (choose : List Sighting → Choice)
    → ChosenBy choose e [] xs
    → ChosenBy choose e [] ys
    → length xs ≡ length ys
    → sightings e xs ≡ sightings e ys

-- of all runs with a digest of this meaning that begin on equal words
pub record LawOfChoosingHosts (h : Meaning) : Type 0 where
  pub unseen : (key words : List ℕ) (cs : List Call) (e : ℕ) → is_enclave_number e ≡ true → GoUnseen e (run h key (start words) cs)
  pub picking : (key words : List ℕ) (cs ds : List Call) → APickingHostNoticesTheSame (run h key (start words) cs) (run h key (start words) ds)
  pub counting : (key words : List ℕ) (cs ds : List Call) → ACountingHostSeesTheSame (run h key (start words) cs) (run h key (start words) ds)
