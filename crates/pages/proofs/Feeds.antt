-- Words fed to a digest in a loop.
use Rattle.std.proofs.Common.{◌≡◌, ℕ, zero, suc, ◌+◌, ◌-◌, ◌*◌, ◌<◌, ◌≤◌, true, false, eqb, ltb, List, [], ◌∷◌, ◌++◌, length, get_or, take, drop, Ok, Err, Result, sym, refl, ap, ◌∙◌, subst, ap₂, ⊎_elim, append_assoc, append-nil, add-zero, arith, length-append, length-drop, length-take}
use Rattle.std.proofs.lemmas.List.{take_more, take_all, get_or-drop}
use Rattle.std.proofs.lemmas.Bool.{cases_Bool, ltb-true, ltb-false}
use Rattle.memory.specs.declared.Fault.{Fault}
use Rattle.memory.specs.Words.{fetched}
use Rattle.digest.specs.Meaning.{Meaning, fed, hash}
use Rattle.digest.proofs.Feeds.{fed_append}
use Rattle.board.specs.declared.Board.{Board}
use Rattle.board.specs.State.{State, entry_of}
use Rattle.board.specs.Measures.{measured_page, measured_pages}
use Rattle.pages.specs.Fed.{Fed}

module _ (m : Meaning) where
  -- two lists are fed one after the other
  pub fed_on : {s t u : m.State} {i j k : ℕ} (xs ys : List ℕ) → Fed m s i xs t j → Fed m t j ys u k → Fed m s i (xs ++ ys) u k
  fed_on {s} {t} {u} {i} {j} {k} xs ys p q = record {
    state = q.state ∙ ap₂ (λ (x : m.State) (n : ℕ). fed m x n ys) p.state p.count ∙ sym (fed_append m s i xs ys);
    count = omega (arith, q.count, p.count, length-append xs ys);
  }

  pub fed_same : {s t : m.State} {i j : ℕ} (xs ys : List ℕ) → xs ≡ ys → Fed m s i xs t j → Fed m s i ys t j
  fed_same {s} {t} {i} {j} xs ys e p = let P : List ℕ → Type 0 = λ zs. Fed m s i zs t j in subst P e p

  pub fed_none : {s : m.State} {i : ℕ} → Fed m s i [] s i
  fed_none {s} {i} = record { state = refl; count = omega arith }

  -- what a cleared digest that was fed these words comes to
  pub digested : {s t : m.State} {i j : ℕ} (ws r : List ℕ) → s ≡ m.first → i ≡ 0 → Fed m s i ws t j → r ≡ m.sum t j → r ≡ hash m ws
  digested {s} {t} {i} {j} ws r p q f e =
      let n : j ≡ length ws = omega (arith, f.count, q) in
      e ∙ ap₂ m.sum (f.state ∙ ap₂ (λ (x : m.State) (k : ℕ). fed m x k ws) p q) n

-- one page more
pub pages_more : (s : State) (e v n : ℕ) → measured_pages s e v (suc n) ≡ measured_pages s e v n ++ measured_page s e (v + n)
pages_more s e v zero = append-nil (measured_page s e v) ∙ ap (measured_page s e) (sym (add-zero v))
pages_more s e v (suc n) =
    let on : suc v + n ≡ v + suc n = omega arith in
    ap (λ (r : List ℕ). measured_page s e v ++ r) (pages_more s e (suc v) n ∙ ap (λ (k : ℕ). measured_pages s e (suc v) n ++ measured_page s e k) on)
    ∙ sym (append_assoc (measured_page s e v) (measured_pages s e (suc v) n) (measured_page s e (v + suc n)))

-- one word more of a page, or none where memory ends
pub word_more : (ws : List ℕ) (a i : ℕ) → a + i < length ws → take (i + 1) (drop a ws) ≡ take i (drop a ws) ++ (get_or ws (a + i) 0 ∷ [])
word_more ws a i h =
    let in_rest : i < length (drop a ws) = omega (arith, length-drop a ws) in
    take_more (drop a ws) i 0 in_rest ∙ ap (λ (w : ℕ). take i (drop a ws) ++ (w ∷ [])) (get_or-drop a ws i 0)

pub word_none : (ws : List ℕ) (a i : ℕ) → length ws ≤ a + i → take (i + 1) (drop a ws) ≡ take i (drop a ws)
word_none ws a i h =
    let one : length (drop a ws) ≤ i = omega (arith, length-drop a ws) in
    let two : length (drop a ws) ≤ i + 1 = omega arith in
    take_all (i + 1) (drop a ws) two ∙ sym (take_all i (drop a ws) one)

-- a read that was accepted gave the word at a place below the size
was_there : (ws : List ℕ) (p w : ℕ) → ◌≡◌ {A = Result ℕ Fault} (Ok w) (fetched ws p) → (p < length ws) × (w ≡ get_or ws p 0)
was_there ws p w e =
    ⊎_elim
    (λ (h : ltb p (length ws) ≡ true). let f = rw h at e in let v : w ≡ get_or ws p 0 = cc in (ltb-true p (length ws) h, v))
    (λ (h : ltb p (length ws) ≡ false). let f = rw h at e in let z : ◌≡◌ {A = ℕ} 0 1 = cc in absurd (omega arith))
    (cases_Bool (ltb p (length ws)))

-- one that was declined was past the end
not_there : (ws : List ℕ) (p : ℕ) (f : Fault) → ◌≡◌ {A = Result ℕ Fault} (Err f) (fetched ws p) → length ws ≤ p
not_there ws p f e =
    ⊎_elim
    (λ (h : ltb p (length ws) ≡ true). let g = rw h at e in let z : ◌≡◌ {A = ℕ} 0 1 = cc in absurd (omega arith))
    (λ (h : ltb p (length ws) ≡ false). ltb-false p (length ws) h)
    (cases_Bool (ltb p (length ws)))

-- A turn of the loop over a page's words: the memory holds `held`, which are the words ws.
module _ (m : Meaning) {s t : m.State} {i j : ℕ} (ws held : List ℕ) (a o : ℕ) (same : held ≡ ws) (before : Fed m s i (take o (drop a ws)) t j) where
  pub turn_word : (w : ℕ) {u : m.State} {k : ℕ} → ◌≡◌ {A = Result ℕ Fault} (Ok w) (fetched held (a + o)) → Fed m t j (w ∷ []) u k → Fed m s i (take (o + 1) (drop a ws)) u k
  turn_word w {u} {k} read more =
      let there = was_there held (a + o) w read in
      let within : a + o < length ws = omega (arith, ap length same, there.0) in
      let word : w ≡ get_or ws (a + o) 0 = there.1 ∙ ap (λ (xs : List ℕ). get_or xs (a + o) 0) same in
      let longer : take o (drop a ws) ++ (w ∷ []) ≡ take (o + 1) (drop a ws) =
      ap (λ (x : ℕ). take o (drop a ws) ++ (x ∷ [])) word ∙ sym (word_more ws a o within) in
      fed_same m _ _ longer (fed_on m (take o (drop a ws)) (w ∷ []) before more)

  pub turn_none : (f : Fault) → ◌≡◌ {A = Result ℕ Fault} (Err f) (fetched held (a + o)) → Fed m s i (take (o + 1) (drop a ws)) t j
  turn_none f read =
      let past : length ws ≤ a + o = omega (arith, ap length same, not_there held (a + o) f read) in
      fed_same m _ _ (sym (word_none ws a o past)) before

-- A turn of the loop over the pages of a range.
module _ (m : Meaning) {s t u : m.State} {i j k : ℕ} (b : Board) (ws held : List ℕ) (e first page : ℕ) (same : held ≡ ws) (past : first ≤ page) where
  pub turn_page : Fed m s i (measured_pages (record { board = b; words = ws }) e first (page - first)) t j → Fed m t j (measured_page (record { board = b; words = held }) e page) u k
      → Fed m s i (measured_pages (record { board = b; words = ws }) e first (page + 1 - first)) u k
  turn_page before more =
      let n = page - first in
      let all : State = record { board = b; words = ws } in
      let at : first + n ≡ page = omega arith in
      let next : page + 1 - first ≡ suc n = omega arith in
      let P : List ℕ → Type 0 = λ xs. Fed m t j (measured_page (record { board = b; words = xs }) e page) u k in
      let grown : measured_pages all e first n ++ measured_page all e page ≡ measured_pages all e first (page + 1 - first) =
      ap (λ (v : ℕ). measured_pages all e first n ++ measured_page all e v) (sym at) ∙ sym (pages_more all e first n) ∙ ap (measured_pages all e first) (sym next) in
      fed_same m _ _ grown (fed_on m _ _ before (subst P same more))

-- a page takes at most 65 words
pub page_short : (s : State) (e v : ℕ) → length (measured_page s e v) ≤ 65
page_short s e v =
    let t = entry_of s.board e v in
    ⊎_elim
    (λ (h : eqb t.permission 0 ≡ true). rw h (omega arith))
    (λ (h : eqb t.permission 0 ≡ false). rw h (omega (arith, length-take 64 (drop (64 * t.frame) s.words))))
    (cases_Bool (eqb t.permission 0))
