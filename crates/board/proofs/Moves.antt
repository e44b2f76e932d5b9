-- What each change of the state leaves of its parts.
use Rattle.std.proofs.Common.{◌≡◌, ℕ, zero, suc, ◌+◌, ◌-◌, ◌*◌, ◌<◌, ◌≤◌, Bool, true, false, cond, eqb, List, [], ◌∷◌, ◌++◌, length, get_or, take, drop, set, replicate, sym, refl, ap, ◌∙◌, ⊎_elim, arith, length-append, length-drop, length-set, length-take-le, get_or-drop, get_or-set_other, get_or-take, get_or-set_same, drop-drop, take_at, drop-set-lt}
use lib.Seq.{drop-set-add, take-set-le, take-set-lt, drop-append-add}
use Rattle.std.proofs.lemmas.Bool.{cond-false, cases_lt, ne_eqb, cond_both}
use Rattle.board.specs.Effects.{with_enclave, with_map, with_entry, cleared_words, released}
use Rattle.board.specs.Measures.{page_words}
use Rattle.board.specs.State.{unmapped, blank, absent, map_of, entry_of, enclave_of}
use Rattle.board.specs.declared.Board.{Board}
use Rattle.board.specs.declared.Enclave.{Enclave}
use Rattle.board.specs.declared.Entry.{Entry}

-- ---- lists

-- an element after a write is what was written or what stood there
pub at_set : {A : Type 0} (P : A → Type 0) (l : List A) (i j : ℕ) (a d : A) → (j ≡ i → P a) → P (get_or l j d) → P (get_or (set l i a) j d)
at_set P [] i j a d new old = old
at_set P (x ∷ xs) zero zero a d new old = new refl
at_set P (x ∷ xs) zero (suc j) a d new old = old
at_set P (x ∷ xs) (suc i) zero a d new old = old
at_set P (x ∷ xs) (suc i) (suc j) a d new old = at_set P xs i j a d (λ q. new (ap suc q)) old

-- ---- maps and records

pub entry_new : (b : Board) (p v : ℕ) (t : Entry) → p < length b.maps → v < length (map_of b p) → entry_of (with_entry b p v t) p v ≡ t
entry_new b p v t hp hv =
    ap (λ (m : List Entry). get_or m v unmapped) (get_or-set_same b.maps p (set (map_of b p) v t) blank hp) ∙ get_or-set_same (map_of b p) v t unmapped hv

pub entry_beside : (b : Board) (p v w : ℕ) (t : Entry) → p < length b.maps → (w ≡ v → ⊥) → entry_of (with_entry b p v t) p w ≡ entry_of b p w
entry_beside b p v w t hp n =
    ap (λ (m : List Entry). get_or m w unmapped) (get_or-set_same b.maps p (set (map_of b p) v t) blank hp) ∙ get_or-set_other (map_of b p) v w t unmapped n

pub entry_elsewhere : (b : Board) (p q w : ℕ) (m : List Entry) → (q ≡ p → ⊥) → entry_of (with_map b p m) q w ≡ entry_of b q w
entry_elsewhere b p q w m n = ap (λ (m : List Entry). get_or m w unmapped) (get_or-set_other b.maps p q m blank n)

-- the record of an enclave stands in the table at the place before its number
pub enclave_at : (b : Board) (e : ℕ) → 1 ≤ e → enclave_of b e ≡ get_or b.enclaves (e - 1) absent
enclave_at b e l = cond-false (eqb e 0) absent (get_or b.enclaves (e - 1) absent) (ne_eqb e 0 (λ q. omega arith))

pub enclaves_with : (b : Board) (e : ℕ) (r : Enclave) → 1 ≤ e → (with_enclave b e r).enclaves ≡ set b.enclaves (e - 1) r
enclaves_with b e r l = cond-false (eqb e 0) b.enclaves (set b.enclaves (e - 1) r) (ne_eqb e 0 (λ q. omega arith))

pub enclave_with : (b : Board) (e d : ℕ) (r : Enclave) → 1 ≤ e → 1 ≤ d → enclave_of (with_enclave b e r) d ≡ get_or (set b.enclaves (e - 1) r) (d - 1) absent
enclave_with b e d r le ld = enclave_at (with_enclave b e r) d ld ∙ ap (λ (l : List Enclave). get_or l (d - 1) absent) (enclaves_with b e r le)

pub enclave_new : (b : Board) (e : ℕ) (r : Enclave) → 1 ≤ e → e ≤ 8 → length b.enclaves ≡ 8 → enclave_of (with_enclave b e r) e ≡ r
enclave_new b e r l u n = enclave_with b e e r l l ∙ get_or-set_same b.enclaves (e - 1) r absent (omega arith)

pub enclave_other : (b : Board) (e d : ℕ) (r : Enclave) → 1 ≤ e → 1 ≤ d → (d ≡ e → ⊥) → enclave_of (with_enclave b e r) d ≡ enclave_of b d
enclave_other b e d r le ld n = enclave_with b e d r le ld ∙ get_or-set_other b.enclaves (e - 1) (d - 1) r absent (omega arith) ∙ sym (enclave_at b d ld)

pub length_enclaves : (b : Board) (e : ℕ) (r : Enclave) → length (with_enclave b e r).enclaves ≡ length b.enclaves
length_enclaves b e r = cond_both (eqb e 0) b.enclaves (set b.enclaves (e - 1) r) (λ (l : List Enclave). length l ≡ length b.enclaves) (λ _. refl) (λ _. length-set b.enclaves (e - 1) r)

-- ---- owners

pub released_kept : (os : List ℕ) (e f d : ℕ) → (d ≡ e → ⊥) → get_or os f 0 ≡ d → get_or (released os e) f 0 ≡ d
released_kept [] e f d n h = h
released_kept (o ∷ os) e zero d n h = cond-false (eqb o e) 0 o (ne_eqb o e (λ q. n (sym h ∙ q))) ∙ h
released_kept (o ∷ os) e (suc f) d n h = released_kept os e f d n h

pub length_released : (os : List ℕ) (e : ℕ) → length (released os e) ≡ length os
length_released [] e = refl
length_released (o ∷ os) e = ap suc (length_released os e)

-- ---- words

part_length : (t : Bool) (ws : List ℕ) → 64 ≤ length ws → length (cond t (replicate 64 0) (take 64 ws)) ≡ 64
part_length true ws h = refl
part_length false ws h = length-take-le 64 ws h

pub length_cleared : (os : List ℕ) (e : ℕ) (ws : List ℕ) → length ws ≡ 64 * length os → length (cleared_words os e ws) ≡ 64 * length os
length_cleared [] e ws h = refl
length_cleared (o ∷ os) e ws h =
    length-append (cond (eqb o e) (replicate 64 0) (take 64 ws)) (cleared_words os e (drop 64 ws))
    ∙ (let a = part_length (eqb o e) ws (omega arith) in let d = length-drop 64 ws in let b = length_cleared os e (drop 64 ws) (omega arith) in omega arith)

pub cleared_page : (os : List ℕ) (e : ℕ) (ws : List ℕ) (f : ℕ) → length ws ≡ 64 * length os → f < length os → (get_or os f 0 ≡ e → ⊥) → page_words (cleared_words os e ws) f ≡ page_words ws f
cleared_page [] e ws f h l n = absurd (omega arith)
cleared_page (o ∷ os) e ws zero h l n =
    ap (λ (x : List ℕ). take 64 (x ++ cleared_words os e (drop 64 ws))) (cond-false (eqb o e) (replicate 64 0) (take 64 ws) (ne_eqb o e n))
    ∙ take_at (take 64 ws) (cleared_words os e (drop 64 ws)) 64 (length-take-le 64 ws (omega arith))
cleared_page (o ∷ os) e ws (suc f) h l n =
    let d = length-drop 64 ws in
    let k : 64 * suc f ≡ 64 + 64 * f = omega arith in
    let a : drop (64 * suc f) (cond (eqb o e) (replicate 64 0) (take 64 ws) ++ cleared_words os e (drop 64 ws)) ≡ drop (64 * f) (cleared_words os e (drop 64 ws)) =
    ap (λ (m : ℕ). drop m (cond (eqb o e) (replicate 64 0) (take 64 ws) ++ cleared_words os e (drop 64 ws))) (k ∙ ap (λ (m : ℕ). m + 64 * f) (sym (part_length (eqb o e) ws (omega arith))))
    ∙ drop-append-add (cond (eqb o e) (replicate 64 0) (take 64 ws)) (cleared_words os e (drop 64 ws)) (64 * f) in
    ap (λ (x : List ℕ). take 64 x) a ∙ cleared_page os e (drop 64 ws) f (omega arith) (omega arith) n
    ∙ ap (λ (x : List ℕ). take 64 x) (drop-drop (64 * f) 64 ws ∙ ap (λ (m : ℕ). drop m ws) (sym k))

pub stored_page : (ws : List ℕ) (f k w : ℕ) → k < 64 → page_words (set ws (64 * f + k) w) f ≡ set (page_words ws f) k w
stored_page ws f k w h = ap (λ (x : List ℕ). take 64 x) (drop-set-add (64 * f) ws k w) ∙ take-set-lt 64 (drop (64 * f) ws) k w h

pub stored_beside : (ws : List ℕ) (f g k w : ℕ) → k < 64 → (g ≡ f → ⊥) → page_words (set ws (64 * f + k) w) g ≡ page_words ws g
stored_beside ws f g k w h n =
    ⊎_elim
    (λ (l : f < g). ap (λ (x : List ℕ). take 64 x) (drop-set-lt (64 * g) ws (64 * f + k) w (omega arith)))
    (λ (l : g ≤ f).
    let j : 64 * f + k ≡ 64 * g + (64 * (f - g) + k) = omega arith in
    ap (λ (i : ℕ). take 64 (drop (64 * g) (set ws i w))) j ∙ ap (λ (x : List ℕ). take 64 x) (drop-set-add (64 * g) ws (64 * (f - g) + k) w) ∙ take-set-le 64 (drop (64 * g) ws) (64 * (f - g) + k) w (omega arith))
    (cases_lt f g)

pub read_page : (ws : List ℕ) (f k : ℕ) → k < 64 → get_or ws (64 * f + k) 0 ≡ get_or (page_words ws f) k 0
read_page ws f k h = sym (get_or-take 64 (drop (64 * f) ws) k 0 h ∙ get_or-drop (64 * f) ws k 0)
