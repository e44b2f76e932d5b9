-- Boundary runs on a new monitor over a memory of zeros, and two values of definitions: what is found and what is listed.
use Rattle.std.specs.Prelude.{◌≡◌, List, [], ◌∷◌, map, ℕ, get_or, replicate}
use Rattle.digest.specs.Meaning.{hash}
use Rattle.digest.specs.Fold.{fold_meaning}
use Rattle.scrambler.specs.Pads.{pad}
use Rattle.board.specs.declared.Call.{Call}
use Rattle.board.specs.declared.Call.TheVariants.{Open, Add, Finish, Destroy, Exit, Load}
use Rattle.board.specs.State.{start}
use Rattle.board.specs.Answers.{Reply}
use Rattle.board.specs.Steps.{run, replies}

-- a row: what the definitions give, and what the rules list
pub record Row : Type 0 where
  pub found : List ℕ
  pub listed : List ℕ

-- the numbers that these calls are answered by
abbrev pub numbers : List Call → List ℕ
numbers cs = map (λ (r : Reply). r.number) (replies (run fold_meaning (replicate 8 0) (start (replicate 4096 0)) cs))

abbrev pub calls : List Call → List ℕ → Row
calls cs ns = record { found = numbers cs; listed = ns }

abbrev pub value : ℕ → ℕ → Row
value n m = record { found = n ∷ []; listed = m ∷ [] }

-- a draft of enclave 3, of pages 10 and 11
abbrev pub draft : Call
draft = Open 3 10 2 640

abbrev pub table : List Row
table =
    -- the last address is within limits, but maps nothing
    calls (Load 4096 ∷ []) (3 ∷ [])
    ∷ calls (Load 4095 ∷ []) (6 ∷ [])
    -- a range of the last page alone
    ∷ calls (Open 8 63 1 4032 ∷ []) (0 ∷ [])
    ∷ calls (Open 8 63 2 4032 ∷ []) (3 ∷ [])
    ∷ calls (Open 8 63 0 4032 ∷ []) (3 ∷ [])
    -- the entry address at both ends of the range
    ∷ calls (Open 3 10 2 767 ∷ []) (0 ∷ [])
    ∷ calls (Open 3 10 2 639 ∷ []) (3 ∷ [])
    ∷ calls (Open 3 10 2 768 ∷ []) (3 ∷ [])
    -- open twice; finish before any add
    ∷ calls (draft ∷ draft ∷ []) (0 ∷ 4 ∷ [])
    ∷ calls (draft ∷ Finish 3 ∷ []) (0 ∷ 6 ∷ [])
    -- the same virtual and physical page again; the same physical page at another virtual one
    ∷ calls (draft ∷ Add 3 10 2 5 ∷ Add 3 10 2 5 ∷ []) (0 ∷ 0 ∷ 7 ∷ [])
    ∷ calls (draft ∷ Add 3 10 2 5 ∷ Add 3 11 2 5 ∷ []) (0 ∷ 0 ∷ 8 ∷ [])
    -- destroy of a draft; exit by the host
    ∷ calls (draft ∷ Destroy 3 ∷ []) (0 ∷ 4 ∷ [])
    ∷ calls (Exit ∷ []) (2 ∷ [])
    -- the scrambler's pad of place 33 under key 1
    ∷ value (pad 1 33) 35
    -- the fold of 1 and then eight zeros has 2 in lane 0
    ∷ value (get_or (hash fold_meaning (1 ∷ replicate 8 0)) 0 0) 2
    ∷ []

abbrev pub EachAnswersAsListed : Type 0
EachAnswersAsListed = map (λ (r : Row). r.found) table ≡ map (λ (r : Row). r.listed) table
