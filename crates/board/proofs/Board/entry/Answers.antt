use Rattle.std.proofs.Common.{◌≡◌, ℕ, ◌≤◌, List, length, get_or, replicate, sym, ⊎_elim}
use lib.ListN.{get_or-replicate}
use Rattle.std.proofs.lemmas.List.{get_or_past}
use Rattle.std.proofs.lemmas.Bool.{cases_lt}
use Rattle.board.specs.declared.Entry.{Entry}
use Rattle.board.specs.State.{unmapped}
use Rattle.board.proofs.Board.entry.Goals as goal

-- past the maps an entry is unmapped
beyond : (maps : List (List Entry)) (p v : ℕ) → length maps ≤ p → unmapped ≡ get_or (get_or maps p (replicate 64 unmapped)) v unmapped
beyond maps p v h =
    let e : get_or (replicate 64 unmapped) v unmapped ≡ unmapped = ⊎_elim (λ l. get_or-replicate 64 v unmapped unmapped l) (λ g. get_or_past (replicate 64 unmapped) v unmapped g) (cases_lt v 64) in
    rw (get_or_past maps p (replicate 64 unmapped) h) (sym e)

pub returns-in-None : goal.returns-in-None
returns-in-None c = beyond _ _ _ c.in-None.ensures.lookup.3
