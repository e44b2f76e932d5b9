-- Lives of enclaves, and the law of lives: what is not an enclave's own call does not disturb it.
use Rattle.std.specs.Prelude.{◌≡◌, ℕ, zero, suc, Bool, true, false, cond, ◌&&◌, ◌||◌, List, [], ◌∷◌, ◌++◌, ◌==◌}
use Rattle.digest.specs.Meaning.{Meaning, hash, hmac}
use Rattle.board.specs.declared.Board.{Board}
use Rattle.board.specs.declared.Context.{Context}
use Rattle.board.specs.declared.Entry.{Entry}
use Rattle.board.specs.declared.Call.{Call}
use Rattle.board.specs.declared.Call.TheVariants.{Finish, Attest}
use Rattle.board.specs.State.{State, start, enclave_of, entry_of}
use Rattle.board.specs.Answers.{Reply, accepting}
use Rattle.board.specs.Measures.{page_words, measured_words}
use Rattle.board.specs.Steps.{Event, run, replies}
use Rattle.board.specs.Kinds.{Kind, destroying, entering, resuming, leaving, accessing, plain, kind_of}
use Rattle.board.specs.Sight.{is_outside}

-- ---- a life

abbrev pub is_accepted : Event → Bool
is_accepted x = x.reply.number == 0

-- an accepted finish of enclave e
pub record Finished (e : ℕ) (x : Event) : Type 0 where
  pub call : x.call ≡ Finish e
  pub accepted : is_accepted x ≡ true

abbrev pub destroys : ℕ → Kind → Bool
destroys e (destroying d) = d == e
destroys e (entering d) = false
destroys e (resuming d) = false
destroys e leaving = false
destroys e (accessing a) = false
destroys e plain = false

-- an accepted destroy of enclave e
abbrev pub ends_life : ℕ → Event → Bool
ends_life e x = destroys e (kind_of x.call) && is_accepted x

-- the events before the first accepted destroy of enclave e
abbrev pub lifetime : ℕ → List Event → List Event
lifetime e [] = []
lifetime e (x ∷ xs) = cond (ends_life e x) [] (x ∷ lifetime e xs)

-- a life of enclave e in a run: it begins with an accepted finish, which the life's events follow
pub record Life (e : ℕ) (events : List Event) : Type 0 where
  pub earlier : List Event
  pub finish : Event
  pub later : List Event
  pub whole : events ≡ earlier ++ (finish ∷ later)
  pub finished : Finished e finish

-- ---- own calls

-- an own call: entered, resumed, or made while it ran; the enclave's number is left out of the first two
pub data Own : Type 0 where
  entered : Own
  resumed : Own
  made : Call → Own

abbrev pub starts : ℕ → Kind → Bool
starts e (destroying d) = false
starts e (entering d) = d == e
starts e (resuming d) = d == e
starts e leaving = false
starts e (accessing a) = false
starts e plain = false

abbrev pub runs : ℕ → Event → Bool
runs e x = x.before.board.running == e

-- an own call of enclave e: every call while it runs, and each accepted enter or resume of it
abbrev pub is_own : ℕ → Event → Bool
is_own e x = runs e x || (starts e (kind_of x.call) && is_accepted x)

-- how a start is noted
abbrev pub start_noted : Kind → Call → Own
start_noted (destroying d) c = made c
start_noted (entering d) c = entered
start_noted (resuming d) c = resumed
start_noted leaving c = made c
start_noted (accessing a) c = made c
start_noted plain c = made c

abbrev pub own_call : ℕ → Event → Own
own_call e x = cond (runs e x) (made x.call) (start_noted (kind_of x.call) x.call)

abbrev pub own_calls : ℕ → List Event → List Own
own_calls e [] = []
own_calls e (x ∷ xs) = own_call e x ∷ own_calls e xs

abbrev pub kept_if : (Event → Bool) → List Event → List Event
kept_if p [] = []
kept_if p (x ∷ xs) = cond (p x) (x ∷ kept_if p xs) (kept_if p xs)

-- the events of a life that are its own calls
abbrev pub own_events : {e : ℕ} {events : List Event} → Life e events → List Event
own_events {e} {events} l = kept_if (is_own e) (lifetime e l.later)

abbrev pub accesses_outside : Board → Kind → Bool
accesses_outside b (destroying d) = false
accesses_outside b (entering d) = false
accesses_outside b (resuming d) = false
accesses_outside b leaving = false
accesses_outside b (accessing a) = is_outside b a
accesses_outside b plain = false

-- a load or a store of enclave e outside its range
abbrev pub reaches_out : ℕ → Event → Bool
reaches_out e x = runs e x && accesses_outside x.before.board (kind_of x.call)

-- the answers to loads and stores outside the range, declined ones too
abbrev pub outside_answers : ℕ → List Event → List Reply
outside_answers e xs = replies (kept_if (reaches_out e) xs)

-- ---- the private state

-- one page of the range: permission, mark and, if it is not empty, its words; not where it lies
pub record PrivatePage : Type 0 where
  pub permission : ℕ
  pub accessed : Bool
  pub words : List ℕ

abbrev pub private_page : List ℕ → Entry → PrivatePage
private_page ws t = record { permission = t.permission; accessed = t.accessed; words = cond (t.permission == 0) [] (page_words ws t.frame) }

-- n pages from v on
abbrev pub private_pages : State → ℕ → ℕ → ℕ → List PrivatePage
private_pages s e v zero = []
private_pages s e v (suc n) = private_page s.words (entry_of s.board e v) ∷ private_pages s e (suc v) n

-- the range, its pages in order, and the context: the live one while the enclave runs, else the saved one
pub record Private : Type 0 where
  pub first : ℕ
  pub count : ℕ
  pub pages : List PrivatePage
  pub context : Context

abbrev pub private : ℕ → State → Private
private e s =
    let r = enclave_of s.board e in
    record { first = r.first; count = r.count; pages = private_pages s e r.first r.count; context = cond (s.board.running == e) s.board.live r.saved }

-- the private states of enclave e after each of these events
abbrev pub private_after : ℕ → List Event → List Private
private_after e [] = []
private_after e (x ∷ xs) = private e x.after ∷ private_after e xs

-- ---- the law

-- one list is the beginning of another
abbrev pub Begins : {A : Type 0} → List A → List A → Type 0
Begins {A} xs ys = (rest : List A) × (xs ++ rest ≡ ys)

-- a life is alike another as far as it goes: answers to all own calls, and private states at the finish and after each own call
pub record AlikeSoFar {e d : ℕ} {xs ys : List Event} (l : Life e xs) (m : Life d ys) : Type 0 where
  pub answers : Begins (replies (own_events l)) (replies (own_events m))
  pub at_finish : private e l.finish.after ≡ private d m.finish.after
  pub throughout : Begins (private_after e (own_events l)) (private_after d (own_events m))

-- and throughout
pub record Alike {e d : ℕ} {xs ys : List Event} (l : Life e xs) (m : Life d ys) : Type 0 where
  pub answers : replies (own_events l) ≡ replies (own_events m)
  pub at_finish : private e l.finish.after ≡ private d m.finish.after
  pub throughout : private_after e (own_events l) ≡ private_after d (own_events m)

-- Of any two lives in two runs: with equal measured words, equal own calls and equal answers to loads and stores outside
-- the range, they are alike.
abbrev pub EqualLivesAreAlike : List Event → List Event → Type 0
EqualLivesAreAlike xs ys =
    (e d : ℕ) (l : Life e xs) (m : Life d ys)
    → measured_words l.finish.before e ≡ measured_words m.finish.before d
    → own_calls e (own_events l) ≡ own_calls d (own_events m)
    → outside_answers e (own_events l) ≡ outside_answers d (own_events m)
    → Alike l m

-- If the own calls and the outside answers of one are a beginning of the other's, it is alike as far as it goes.
abbrev pub AShorterLifeIsAlikeSoFar : List Event → List Event → Type 0
AShorterLifeIsAlikeSoFar xs ys =
    (e d : ℕ) (l : Life e xs) (m : Life d ys)
    → measured_words l.finish.before e ≡ measured_words m.finish.before d
    → Begins (own_calls e (own_events l)) (own_calls d (own_events m))
    → Begins (outside_answers e (own_events l)) (outside_answers d (own_events m))
    → AlikeSoFar l m

-- every event but e's own leaves e's private state as it was
abbrev pub StillBetween : ℕ → List Event → Type 0
StillBetween e [] = Unit {0}
StillBetween e (x ∷ xs) = (is_own e x ≡ false → private e x.after ≡ private e x.before) × StillBetween e xs

-- Of any life in a run: between own calls the private state does not change.
abbrev pub NothingChangesBetweenOwnCalls : List Event → Type 0
NothingChangesBetweenOwnCalls xs = (e : ℕ) (l : Life e xs) → StillBetween e (lifetime e l.later)

-- of all runs with a digest of this meaning and one key, begun on any words
pub record LawOfLives (h : Meaning) : Type 0 where
  pub alike : (key words others : List ℕ) (cs ds : List Call) → EqualLivesAreAlike (run h key (start words) cs) (run h key (start others) ds)
  pub so_far : (key words others : List ℕ) (cs ds : List Call) → AShorterLifeIsAlikeSoFar (run h key (start words) cs) (run h key (start others) ds)
  pub still : (key words : List ℕ) (cs : List Call) → NothingChangesBetweenOwnCalls (run h key (start words) cs)

-- ---- attestations

-- every accepted attest of these events answers this measurement, and the tag of it and the attested word
abbrev pub Attests : Meaning → List ℕ → List ℕ → List Event → Type 0
Attests h key m [] = Unit {0}
Attests h key m (x ∷ xs) = ((w : ℕ) → x.call ≡ Attest w → is_accepted x ≡ true → x.reply ≡ accepting (m ++ hmac h key (m ++ (w ∷ [])))) × Attests h key m xs

-- of any life in a run: what it attests is the digest of the words measured at its own finish
abbrev pub ALifeAttestsItsOwnFinish : Meaning → List ℕ → List Event → Type 0
ALifeAttestsItsOwnFinish h key xs = (e : ℕ) (l : Life e xs) → Attests h key (hash h (measured_words l.finish.before e)) (own_events l)

-- of all runs with a digest of this meaning
abbrev pub LawOfAttestations : Meaning → Type 0
LawOfAttestations h = (key words : List ℕ) (cs : List Call) → ALifeAttestsItsOwnFinish h key (run h key (start words) cs)
