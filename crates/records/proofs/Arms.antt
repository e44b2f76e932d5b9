-- The arms of the reader: a record of a known kind that is whole, and one that no arm takes.
use Rattle.std.proofs.Common.{◌≡◌, ℕ, ◌+◌, ◌-◌, ◌<◌, ◌≤◌, true, false, eqb, List, [], ◌∷◌, length, get_or, take, drop, Some, Ok, Err, sym, refl, ap, ◌∙◌, ⊎_elim, add_assoc, one-add, arith}
use Rattle.std.proofs.lemmas.List.{get_or-drop, take_rest}
use Rattle.std.proofs.lemmas.Bool.{lt-leb, le-leb, eqb-true, cases_Bool}
use Rattle.board.specs.declared.Call.{Call}
use Rattle.records.specs.Kinds.{Width, byte, half, word, size, total, Maker, Row, rows, row_of, length_by, length_of_body}
use Rattle.records.specs.Records.{number_at, call_at, Read, lacking, by_row, parse}

-- a number read past the first j bytes
number_drop : (w : Width) (bs : List ℕ) (j i : ℕ) → number_at w (drop j bs) i ≡ number_at w bs (j + i)
number_drop byte bs j i = get_or-drop j bs i 0
number_drop half bs j i = simp (get_or-drop, add_assoc)
number_drop word bs j i = simp (get_or-drop, add_assoc)

-- a call read past the first j bytes
pub call_drop : (ws : List Width) (f : Maker ws) (bs : List ℕ) (j i : ℕ) → call_at ws f (drop j bs) i ≡ call_at ws f bs (j + i)
call_drop [] c bs j i = refl
call_drop (w ∷ ws) f bs j i = rw (number_drop w bs j i, add_assoc) (call_drop ws (f (number_at w bs (j + i))) bs j (i + size w))

-- a body that is whole makes the call of its row
pub whole_row : (place k : ℕ) (r : Row) (body : List ℕ) → total r.widths ≤ length body → by_row place k body (Some r) ≡ Ok (Some (call_at r.widths r.call body 0, drop (total r.widths) body))
whole_row place k r body h = rw (le-leb (total r.widths) (length body) h)

-- a record of kind k that is whole, by the places of the bytes from its kind on
pub arm : (place : ℕ) (bs : List ℕ) (k : ℕ) (r : Row) {c : Call} → row_of k rows ≡ Some r → get_or bs 0 0 ≡ k → 1 + total r.widths ≤ length bs → c ≡ call_at r.widths r.call bs 1 → ◌≡◌ {A = Read} (Ok (Some (c, take (length bs - (1 + total r.widths)) (drop (1 + total r.widths) bs)))) (parse place bs)
arm place [] k r known is whole made = absurd (omega arith)
arm place (b ∷ bs) k r known is whole made =
    let n = total r.widths in
    let room : n ≤ length bs = omega arith in
    let same : parse place (b ∷ bs) ≡ by_row place k bs (Some r) = rw is (ap (by_row place k bs) known) in
    rw (made, take_rest (b ∷ bs) (1 + n), one-add n, ← call_drop r.widths r.call (b ∷ bs) 1 0) (sym (same ∙ whole_row place k r bs room))

-- the bytes after the kind are too few for each row of that kind
abbrev pub Misses : List Row → ℕ → ℕ → Type 0
Misses [] k got = Unit {0}
Misses (r ∷ rs) k got = (k ≡ r.kind → got < total r.widths) × Misses rs k got

-- such a record has no row, or a longer body
misses : (rs : List Row) (place k : ℕ) (body : List ℕ) → Misses rs k (length body) → ◌≡◌ {A = Read} (Err (lacking place k (length body) (length_by (row_of k rs)))) (by_row place k body (row_of k rs))
misses [] place k body m = refl
misses (r ∷ rs) place k body m =
    ⊎_elim
    (λ (e : eqb k r.kind ≡ true). rw (e, lt-leb (total r.widths) (length body) (m.0 (eqb-true k r.kind e))))
    (λ (e : eqb k r.kind ≡ false). rw e (misses rs place k body m.1))
    (cases_Bool (eqb k r.kind))

-- a record that no arm takes is read as its fault
pub stop : (place : ℕ) (bs : List ℕ) → 1 ≤ length bs → Misses rows (get_or bs 0 0) (length bs - 1) → ◌≡◌ {A = Read} (Err (lacking place (get_or bs 0 0) (length (take (length bs - 1) (drop 1 bs))) (length_of_body (get_or bs 0 0)))) (parse place bs)
stop place [] some m = absurd (omega arith)
stop place (k ∷ body) some m =
    let n : length (k ∷ body) - 1 ≡ length body = omega arith in
    rw (take_rest (k ∷ body) 1) (misses rows place k body (rw n at m))
