-- What a measurement fixes: equal measured words are equal enclaves, and the other way round.
use Rattle.std.specs.Prelude.{◌≡◌, ℕ, true, ◌↔◌, List, [], ◌∷◌, ◌≢◌}
use Rattle.digest.specs.Meaning.{Meaning}
use Rattle.board.specs.declared.Call.{Call}
use Rattle.board.specs.declared.Phase.TheVariants.{Absent}
use Rattle.board.specs.State.{State, start, enclave_of, entry_of, inside, makes_range, covers, page_of}
use Rattle.board.specs.Questions.{is_enclave_number}
use Rattle.board.specs.Measures.{page_words, measured_words}
use Rattle.board.specs.Steps.{Event, run}
use Rattle.board.specs.Lives.{Life}

-- enclave e in state s and enclave d in state t have equal ranges and entry addresses and, on each page of the range, equal permissions and
-- equal words if it is not empty
pub record BuiltAlike (e d : ℕ) (s t : State) : Type 0 where
  pub first : (enclave_of s.board e).first ≡ (enclave_of t.board d).first
  pub count : (enclave_of s.board e).count ≡ (enclave_of t.board d).count
  pub entrypoint : (enclave_of s.board e).entrypoint ≡ (enclave_of t.board d).entrypoint
  pub permissions : (v : ℕ) → inside s.board e v ≡ true → (entry_of s.board e v).permission ≡ (entry_of t.board d v).permission
  pub contents : (v : ℕ) → inside s.board e v ≡ true → ((entry_of s.board e v).permission ≢ 0) → page_words s.words (entry_of s.board e v).frame ≡ page_words t.words (entry_of t.board d v).frame

-- of two accepted finishes in two runs: they measure equal words exactly when the enclaves are built alike
abbrev pub MeasuredWordsTellEnclavesApart : List Event → List Event → Type 0
MeasuredWordsTellEnclavesApart xs ys =
    (e d : ℕ) (l : Life e xs) (m : Life d ys)
    → (measured_words l.finish.before e ≡ measured_words m.finish.before d) ↔ BuiltAlike e d l.finish.before m.finish.before

-- of all runs with a digest of this meaning, whatever their keys and words
abbrev pub LawOfMeasurements : Meaning → Type 0
LawOfMeasurements h =
    (key other_key words others : List ℕ) (cs ds : List Call) → MeasuredWordsTellEnclavesApart (run h key (start words) cs) (run h other_key (start others) ds)

-- ---- ranges

-- the range of enclave e has at least one page, ends at or below page 64, and has the entry address in it
abbrev pub RangeIsLawful : ℕ → State → Type 0
RangeIsLawful e s =
    let r = enclave_of s.board e in
    (makes_range r.first r.count ≡ true) × (covers r.first r.count (page_of r.entrypoint) ≡ true)

-- of a run: after each call every range that exists is lawful
abbrev pub RangesStayLawful : List Event → Type 0
RangesStayLawful [] = Unit {0}
RangesStayLawful (x ∷ xs) = ((e : ℕ) → is_enclave_number e ≡ true → ((enclave_of x.after.board e).phase ≢ Absent) → RangeIsLawful e x.after) × RangesStayLawful xs

-- of all runs with a digest of this meaning
abbrev pub LawOfRanges : Meaning → Type 0
LawOfRanges h = (key words : List ℕ) (cs : List Call) → RangesStayLawful (run h key (start words) cs)
