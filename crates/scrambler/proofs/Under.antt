-- What a word under a pad is.
use Rattle.std.proofs.Common.{◌≡◌, ℕ, List, set, ap, ◌∙◌, arith}
use lib.Bits.{bit_xor, xor_assoc, xor_self, xor_zero_r}
use Rattle.std.proofs.lemmas.List.{ext_get_or}
use Rattle.memory.proofs.Places.{length_placed, getD_placed, placed_set}
use Rattle.scrambler.specs.Pads.{pad, padded}

xor_back : (w p : ℕ) → bit_xor (bit_xor w p) p ≡ w
xor_back w p = xor_assoc w p p ∙ ap (bit_xor w) (xor_self p) ∙ xor_zero_r w

-- what is written under a pad is read as it was
pub padded_set : (key : ℕ) (ws : List ℕ) (p w : ℕ) → padded key (set ws p (bit_xor w (pad key p))) ≡ set (padded key ws) p w
padded_set key ws p w =
    placed_set (λ q v. bit_xor v (pad key q)) ws p (bit_xor w (pad key p)) ∙ ap (set (padded key ws) p) (xor_back w (pad key p))

-- under its pads twice a list is as it was
pub padded_twice : (key : ℕ) (ws : List ℕ) → padded key (padded key ws) ≡ ws
padded_twice key ws =
    ext_get_or 0 (padded key (padded key ws)) ws (grind (arith, length_placed))
    (λ p l. grind (arith, length_placed, getD_placed, xor_back))
