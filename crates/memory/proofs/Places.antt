-- The laws of `placed`.
use Rattle.std.proofs.Common.{◌≡◌, ℕ, ◌<◌, List, length, get_or, set, Ok, Err, inl, inr, arith}
use Rattle.std.proofs.lemmas.List.{ext_get_or, get_or-set_same, get_or-set_other, length-set}
use Rattle.std.proofs.lemmas.List.FromFn.{length-map-range_with_len, get_or-map-range_with_len}
use Rattle.std.proofs.lemmas.Bool.{cases_eq}
use Rattle.std.proofs.lemmas.Bool.Decides.{nat_tests}
use Rattle.memory.specs.declared.Fault.{Fault}
use Rattle.memory.specs.Words.{fetched, stored}
use Rattle.memory.specs.Placed.{placed}

pub length_placed : (f : ℕ → ℕ → ℕ) (ws : List ℕ) → length (placed f ws) ≡ length ws
unfolding placed
length_placed f ws = length-map-range_with_len (λ p. f p (get_or ws p 0)) 0 (length ws)

pub getD_placed : (f : ℕ → ℕ → ℕ) (ws : List ℕ) (p : ℕ) → p < length ws → get_or (placed f ws) p 0 ≡ f p (get_or ws p 0)
unfolding placed
getD_placed f ws p h = get_or-map-range_with_len (λ p. f p (get_or ws p 0)) 0 (length ws) p p 0 h (omega arith)

-- two lists, each place by place, are equal
pub placed_same : (f g : ℕ → ℕ → ℕ) (us ws : List ℕ) → length us ≡ length ws → ((p : ℕ) → p < length ws → f p (get_or us p 0) ≡ g p (get_or ws p 0)) → placed f us ≡ placed g ws
placed_same f g us ws e h =
    ext_get_or 0 (placed f us) (placed g ws)
    (grind (arith, length_placed))
    (λ i l. grind (arith, length_placed, getD_placed, h i))

-- a write below is a write above
pub placed_set : (f : ℕ → ℕ → ℕ) (ws : List ℕ) (p w : ℕ) → placed f (set ws p w) ≡ set (placed f ws) p (f p w)
placed_set f ws p w =
    ext_get_or 0 (placed f (set ws p w)) (set (placed f ws) p (f p w))
    (simp (length_placed, length-set))
    (λ i l. elim (cases_eq i p) [
      | inl e ↦ grind (arith, length_placed, length-set, getD_placed, get_or-set_same)
      | inr ne ↦ grind (arith, length_placed, length-set, getD_placed, get_or-set_other)
    ])

-- a rule by places keeps the answers
pub stored_placed : (f : ℕ → ℕ → ℕ) (ws : List ℕ) (p : ℕ) → stored (placed f ws) p ≡ stored ws p
stored_placed f ws p = simp length_placed

pub fetched_placed : (f : ℕ → ℕ → ℕ) (ws : List ℕ) (p w : ℕ) → Ok w ≡ fetched ws p → Ok (f p w) ≡ fetched (placed f ws) p
fetched_placed f ws p w e = grind (arith, nat_tests, length_placed, getD_placed)

pub fetched_declined : (f : ℕ → ℕ → ℕ) (ws : List ℕ) (p : ℕ) (d : Fault) → Err d ≡ fetched ws p → Err d ≡ fetched (placed f ws) p
fetched_declined f ws p d e = grind (arith, nat_tests, length_placed)
