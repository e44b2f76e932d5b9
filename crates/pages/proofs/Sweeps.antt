-- Going over the pages one by one, to clear those of an enclave.
use Rattle.std.proofs.Common.{◌≡◌, ℕ, ◌+◌, ◌*◌, ◌<◌, ◌≤◌, true, false, eqb, List, ◌++◌, length, get_or, take, drop, replicate, sym, refl, ap, ◌∙◌, append_assoc, arith, drop-drop, take-add}
use lib.ListN.{length-replicate}
use lib.Seq.{paste, take-paste, drop-paste, length-paste}
use Rattle.std.proofs.lemmas.List.{drop_more}
use Rattle.std.proofs.lemmas.Bool.{eq-eqb, ne_eqb}
use Rattle.board.specs.Effects.{cleared_words}

-- the words before page i, and what the owners from i on make of the others
abbrev pub Sweep : List ℕ → ℕ → List ℕ → ℕ → List ℕ
Sweep os e ws i = take (64 * i) ws ++ cleared_words (drop i os) e (drop (64 * i) ws)

page_more : (i : ℕ) → 64 * (i + 1) ≡ 64 * i + 64
page_more i = omega arith

pub kept : (os : List ℕ) (e : ℕ) (ws : List ℕ) (i : ℕ) → i < length os → eqb (get_or os i 0) e ≡ false → Sweep os e ws (i + 1) ≡ Sweep os e ws i
kept os e ws i h t =
    let one : Sweep os e ws (i + 1) ≡ (take (64 * i) ws ++ take 64 (drop (64 * i) ws)) ++ cleared_words (drop (i + 1) os) e (drop (64 * i + 64) ws) =
    rw (page_more i, take-add (64 * i) 64 ws) refl in
    let other : Sweep os e ws i ≡ take (64 * i) ws ++ (take 64 (drop (64 * i) ws) ++ cleared_words (drop (i + 1) os) e (drop (64 * i + 64) ws)) =
    rw (drop_more os i 0 h, t, drop-drop 64 (64 * i) ws) refl in
    one ∙ append_assoc (take (64 * i) ws) (take 64 (drop (64 * i) ws)) (cleared_words (drop (i + 1) os) e (drop (64 * i + 64) ws)) ∙ sym other

pub wiped : (os : List ℕ) (e : ℕ) (ws : List ℕ) (i : ℕ) → i < length os → 64 * i + 64 ≤ length ws → eqb (get_or os i 0) e ≡ true → Sweep os e (paste ws (64 * i) (replicate 64 0) 64) (i + 1) ≡ Sweep os e ws i
wiped os e ws i h room t =
    let before : 64 * i ≤ length ws = omega arith in
    let long : 64 ≤ length (replicate {A = ℕ} 64 0) = omega (arith, length-replicate {A = ℕ} 64 0) in
    let one : Sweep os e (paste ws (64 * i) (replicate 64 0) 64) (i + 1) ≡ (take (64 * i) ws ++ take 64 (replicate 64 0)) ++ cleared_words (drop (i + 1) os) e (drop (64 * i + 64) ws) =
    rw (page_more i, take-paste ws (64 * i) (replicate 64 0) 64 before long, drop-paste ws (64 * i) (replicate 64 0) 64 before long) refl in
    let other : Sweep os e ws i ≡ take (64 * i) ws ++ (replicate 64 0 ++ cleared_words (drop (i + 1) os) e (drop (64 * i + 64) ws)) =
    rw (drop_more os i 0 h, t, drop-drop 64 (64 * i) ws) refl in
    one ∙ append_assoc (take (64 * i) ws) (take 64 (replicate 64 0)) (cleared_words (drop (i + 1) os) e (drop (64 * i + 64) ws)) ∙ sym other

-- a turn of the loop over the pages, from words ws to ns; `all` is what the whole loop comes to
pub kept_turn : (os : List ℕ) (e : ℕ) (ws ns all : List ℕ) (i : ℕ) → i < length os → (get_or os i 0 ≡ e → ⊥) → ns ≡ ws → length ws ≡ 64 * length os → Sweep os e ws i ≡ all → (length ns ≡ 64 * length os) × (Sweep os e ns (i + 1) ≡ all)
kept_turn os e ws ns all i h t same long inv = (ap length same ∙ long, ap (λ (x : List ℕ). Sweep os e x (i + 1)) same ∙ (kept os e ws i h (ne_eqb (get_or os i 0) e t) ∙ inv))

pub wiped_turn : (os : List ℕ) (e : ℕ) (ws ns all : List ℕ) (i : ℕ) → i < length os → get_or os i 0 ≡ e → ns ≡ paste ws (64 * i) (replicate 64 0) 64 → length ws ≡ 64 * length os → Sweep os e ws i ≡ all → (length ns ≡ 64 * length os) × (Sweep os e ns (i + 1) ≡ all)
wiped_turn os e ws ns all i h t same long inv =
    let room : 64 * i + 64 ≤ length ws = omega arith in
    let full : 64 ≤ length (replicate {A = ℕ} 64 0) = omega (arith, length-replicate {A = ℕ} 64 0) in
    (ap length same ∙ (length-paste ws (64 * i) (replicate 64 0) 64 room full ∙ long), ap (λ (x : List ℕ). Sweep os e x (i + 1)) same ∙ (wiped os e ws i h room (eq-eqb (get_or os i 0) e t) ∙ inv))
