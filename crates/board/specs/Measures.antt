-- The words that a finish measures.
use Rattle.std.specs.Prelude.{ℕ, zero, suc, ◌*◌, cond, List, [], ◌∷◌, ◌++◌, take, drop, ◌==◌}
use Rattle.board.specs.State.{State, enclave_of, entry_of, makes_range}

-- the 64 words of physical page f
abbrev pub page_words : List ℕ → ℕ → List ℕ
page_words ws f = take 64 (drop (64 * f) ws)

-- of one virtual page its permission and, if that is not 0, its words
abbrev pub measured_page : State → ℕ → ℕ → List ℕ
measured_page s e v =
    let t = entry_of s.board e v in
    t.permission ∷ cond (t.permission == 0) [] (page_words s.words t.frame)

-- of n pages from v on, in rising order
abbrev pub measured_pages : State → ℕ → ℕ → ℕ → List ℕ
measured_pages s e v zero = []
measured_pages s e v (suc n) = measured_page s e v ++ measured_pages s e (suc v) n

-- first, count, entry, and then each page of the range; where the numbers make no range, there is none
abbrev pub measured_words : State → ℕ → List ℕ
measured_words s e =
    let r = enclave_of s.board e in
    r.first ∷ (r.count ∷ (r.entrypoint ∷ cond (makes_range r.first r.count) (measured_pages s e r.first r.count) []))
