-- What is read writes back: each row makes calls that are laid out by its widths, and bytes are those of the numbers read of them.
use Rattle.std.proofs.Common.{◌≡◌, ℕ, suc, ◌+◌, ◌*◌, ◌/◌, ◌%◌, ◌<◌, ◌≤◌, true, false, eqb, leb, List, [], ◌∷◌, ◌++◌, length, get_or, drop, Some, sym, refl, ap, ◌∙◌, ⊎_elim, append_assoc, add-zero, add_assoc, zero-add, add-one, arith, drop-cons}
use Rattle.std.proofs.lemmas.Bool.{leb-true, eqb-true, cases_Bool}
use Rattle.records.specs.Kinds.{Width, byte, half, word, size, total, Maker, Row, rows, row_of, Field, Layout, of_kind, layout}
use Rattle.records.specs.Records.{spelled, body_of, number_at, call_at, by_row, parse, Back}

-- a row makes calls that are laid out by its widths, after the fields that `g` puts first
abbrev Keeps : (ws : List Width) → Maker ws → (List Field → Layout) → Type 0
Keeps [] c g = layout c ≡ g []
Keeps (w ∷ ws) f g = (n : ℕ) → Keeps ws (f n) (λ fs. g ((w, n) ∷ fs))

-- so does each row
abbrev EachKeeps : List Row → Type 0
EachKeeps [] = Unit {0}
EachKeeps (r ∷ rs) = Keeps r.widths r.call (of_kind r.kind) × EachKeeps rs

-- reader and writer agree, row by row
rows_keep : EachKeeps rows
rows_keep =
    (λ a b c d. refl, (λ a b c d. refl, (λ a. refl, (λ a. refl, (λ a. refl, (λ a. refl, (λ a. refl, (refl, (refl, (λ a. refl, (λ a b. refl, (λ a. refl, (λ a. refl, (λ a b. refl, (λ a b. refl, (λ a b c d. refl, (λ a. refl, tt)))))))))))))))))

-- the fields that begin at place i
abbrev fields_at : List Width → List ℕ → ℕ → List Field
fields_at [] bs i = []
fields_at (w ∷ ws) bs i = (w, number_at w bs i) ∷ fields_at ws bs (i + size w)

-- a call that a row makes of bytes is laid out as the fields that were read
layout_at : (ws : List Width) (f : Maker ws) (g : List Field → Layout) → Keeps ws f g → (bs : List ℕ) (i : ℕ) → layout (call_at ws f bs i) ≡ g (fields_at ws bs i)
layout_at [] c g e bs i = e
layout_at (w ∷ ws) f g e bs i = layout_at ws (f (number_at w bs i)) (λ fs. g ((w, number_at w bs i) ∷ fs)) (e (number_at w bs i)) bs (i + size w)

-- bytes are the bytes of the number that is read of them
spelled_two : (a b : ℕ) → a < 256 → b < 256 → spelled half (a * 256 + b) ≡ a ∷ b ∷ []
spelled_two a b p q =
    let n = a * 256 + b in
    let e1 : n / 256 % 256 ≡ a = omega arith in
    let e0 : n % 256 ≡ b = omega arith in
    cc

spelled_four : (a b c d : ℕ) → a < 256 → b < 256 → c < 256 → d < 256 → spelled word (a * 16777216 + b * 65536 + c * 256 + d) ≡ a ∷ b ∷ c ∷ d ∷ []
spelled_four a b c d p q r s =
    let n = a * 16777216 + b * 65536 + c * 256 + d in
    let e3 : n / 16777216 % 256 ≡ a = omega arith in
    let e2 : n / 65536 % 256 ≡ b = omega arith in
    let e1 : n / 256 % 256 ≡ c = omega arith in
    let e0 : n % 256 ≡ d = omega arith in
    cc

-- one byte, and those after it
next : (bs : List ℕ) (i j : ℕ) → i < length bs → i + 1 ≡ j → drop i bs ≡ get_or bs i 0 ∷ drop j bs
next bs i j h e = rw (← e, add-one) (drop-cons bs i 0 h)

-- bytes from place i on are those of the field there, and those after it
spelled_back : (w : Width) (bs : List ℕ) (i : ℕ) → ((j : ℕ) → get_or bs j 0 < 256) → i + size w ≤ length bs → drop i bs ≡ spelled w (number_at w bs i) ++ drop (i + size w) bs
spelled_back byte bs i small room = next bs i (i + 1) (omega arith) refl
spelled_back half bs i small room =
    let d0 = next bs i (i + 1) (omega arith) refl in
    let d1 = next bs (i + 1) (i + 2) (omega arith) (omega arith) in
    let all : drop i bs ≡ get_or bs i 0 ∷ get_or bs (i + 1) 0 ∷ drop (i + 2) bs = cc in
    all ∙ ap (λ (xs : List ℕ). xs ++ drop (i + 2) bs) (sym (spelled_two _ _ (small i) (small (i + 1))))
spelled_back word bs i small room =
    let d0 = next bs i (i + 1) (omega arith) refl in
    let d1 = next bs (i + 1) (i + 2) (omega arith) (omega arith) in
    let d2 = next bs (i + 2) (i + 3) (omega arith) (omega arith) in
    let d3 = next bs (i + 3) (i + 4) (omega arith) (omega arith) in
    let all : drop i bs ≡ get_or bs i 0 ∷ get_or bs (i + 1) 0 ∷ get_or bs (i + 2) 0 ∷ get_or bs (i + 3) 0 ∷ drop (i + 4) bs = cc in
    all ∙ ap (λ (xs : List ℕ). xs ++ drop (i + 4) bs) (sym (spelled_four _ _ _ _ (small i) (small (i + 1)) (small (i + 2)) (small (i + 3))))

-- and so for one field after another
body_back : (ws : List Width) (bs : List ℕ) (i : ℕ) → ((j : ℕ) → get_or bs j 0 < 256) → i + total ws ≤ length bs → drop i bs ≡ body_of (fields_at ws bs i) ++ drop (i + total ws) bs
body_back [] bs i small room = rw add-zero
body_back (w ∷ ws) bs i small room =
    let most : i + size w ≤ length bs = omega arith in
    let rest : (i + size w) + total ws ≤ length bs = omega arith in
    spelled_back w bs i small most ∙ rw (body_back ws bs (i + size w) small rest, append_assoc, add_assoc)

-- a body read by a row
row_back : (place k : ℕ) (body : List ℕ) (r : Row) → Keeps r.widths r.call (of_kind r.kind) → k ≡ r.kind → ((j : ℕ) → get_or body j 0 < 256) → Back (k ∷ body) (by_row place k body (Some r))
row_back place k body r keeps is small =
    let ws = r.widths in
    let n = total ws in
    let laid = layout_at ws r.call (of_kind r.kind) keeps body 0 in
    let bytes : Layout → List ℕ = λ l. (l.kind ∷ body_of l.fields) ++ drop n body in
    ⊎_elim
    (λ (h : leb n (length body) ≡ true).
    let room : 0 + n ≤ length body = omega (arith, leb-true n (length body) h) in
    let whole = rw zero-add at (body_back ws body 0 small room) in
    let all : k ∷ body ≡ bytes (of_kind r.kind (fields_at ws body 0)) = cc in
    rw h (all ∙ sym (ap bytes laid)))
    (λ (h : leb n (length body) ≡ false). rw h tt)
    (cases_Bool (leb n (length body)))

-- a body read by the row of its kind
rows_back : (rs : List Row) (place k : ℕ) (body : List ℕ) → EachKeeps rs → ((j : ℕ) → get_or body j 0 < 256) → Back (k ∷ body) (by_row place k body (row_of k rs))
rows_back [] place k body keep small = tt
rows_back (r ∷ rs) place k body keep small =
    ⊎_elim
    (λ (e : eqb k r.kind ≡ true). rw e (row_back place k body r keep.0 (eqb-true k r.kind e) small))
    (λ (e : eqb k r.kind ≡ false). rw e (rows_back rs place k body keep.1 small))
    (cases_Bool (eqb k r.kind))

-- a record that is read writes back as its bytes
pub back : (place : ℕ) (bs : List ℕ) → ((j : ℕ) → get_or bs j 0 < 256) → Back bs (parse place bs)
back place [] small = refl
back place (k ∷ body) small = rows_back rows place k body rows_keep (λ j. small (suc j))
