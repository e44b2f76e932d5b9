-- What a memory over an image means, step by step.
use Rattle.std.proofs.Common.{◌≡◌, ℕ, ◌+◌, ◌-◌, ◌*◌, ◌/◌, ◌%◌, ◌<◌, min, Bool, true, false, List, length, get_or, set, replicate, Ok, ap, ◌∙◌, inl, inr, arith}
use lib.ListN.{get_or-replicate}
use Rattle.std.proofs.lemmas.List.{get_or-set_same, get_or-set_other, length-set, ext_get_or}
use Rattle.std.proofs.lemmas.List.FromFn.{length-map-range_with_len, get_or-map-range_with_len}
use Rattle.std.proofs.lemmas.Bool.Decides.{nat_tests}
use Rattle.std.proofs.lemmas.Bool.{cases_eq}
use Rattle.memory.specs.Words.{fetched}
use Rattle.memory.specs.Fills.{filled}
use Rattle.memory.specs.Images.{image_word, image_size, image_words, shown, pictured}
use Rattle.memory.proofs.Copies.{length_filled, filled_outside, filled_inside}

pub length_pictured : (image area : List ℕ) (copied : List Bool) → length (pictured image area copied) ≡ image_size image area
unfolding pictured
length_pictured image area copied = length-map-range_with_len (shown image area copied) 0 (image_size image area)

pub getD_pictured : (image area : List ℕ) (copied : List Bool) (p : ℕ) → p < image_size image area → get_or (pictured image area copied) p 0 ≡ shown image area copied p
unfolding pictured
getD_pictured image area copied p l = get_or-map-range_with_len (shown image area copied) 0 (image_size image area) p p 0 l (omega arith)

-- what a read answers
pub fetched_there : (image area : List ℕ) (copied : List Bool) (p : ℕ) → p < image_size image area → get_or copied (p / 64) false ≡ true → Ok (get_or area p 0) ≡ fetched (pictured image area copied) p
fetched_there image area copied p l e = grind (arith, nat_tests, length_pictured, getD_pictured)

pub fetched_here : (image area : List ℕ) (copied : List Bool) (p : ℕ) → p < image_size image area → get_or copied (p / 64) false ≡ false → Ok (image_word image p) ≡ fetched (pictured image area copied) p
fetched_here image area copied p l e = grind (arith, nat_tests, length_pictured, getD_pictured)

-- the picture by its places
pictured_is : (image area : List ℕ) (copied : List Bool) (ws : List ℕ) → image_size image area ≡ length ws → ((p : ℕ) → p < length ws → shown image area copied p ≡ get_or ws p 0) → pictured image area copied ≡ ws
pictured_is image area copied ws e h =
    ext_get_or 0 (pictured image area copied) ws (length_pictured image area copied ∙ e)
    (λ p l.
    let lp : p < image_size image area = omega (arith, length_pictured image area copied) in
    let lw : p < length ws = omega arith in
    getD_pictured image area copied p lp ∙ h p lw)

-- where no page is copied the memory means the image's words
bare_means : (image area : List ℕ) (copied : List Bool) → ((g : ℕ) → g < 64 → get_or copied g false ≡ false) → pictured image area copied ≡ image_words image (image_size image area)
bare_means image area copied none =
    pictured_is image area copied (image_words image (image_size image area))
    (grind (arith, length-map-range_with_len))
    (λ p lp. grind (arith, length-map-range_with_len, get_or-map-range_with_len, none (p / 64)))

pub uncopied_means : (image area : List ℕ) → pictured image area (replicate 64 false) ≡ image_words image (image_size image area)
uncopied_means image area = bare_means image area (replicate 64 false) (λ g. get_or-replicate 64 g false false)

-- a page g that is copied to the area changes no word of the meaning
brought : (image area : List ℕ) (copied : List Bool) (g n : ℕ) → g < length copied → n ≡ min (image_size image area - g * 64) 64 → get_or copied g false ≡ false →
    pictured image (filled area (g * 64) (λ k. image_word image (g * 64 + k)) n) (set copied g true) ≡ pictured image area copied
brought image area copied g n l e fresh =
    let f : ℕ → ℕ = λ k. image_word image (g * 64 + k) in
    pictured_is image (filled area (g * 64) f n) (set copied g true) (pictured image area copied)
    (grind (arith, length_filled area (g * 64) f n, length_pictured))
    (λ p lp.
    elim (cases_eq (p / 64) g) [
      | inl q ↦
          let at : g * 64 + p % 64 ≡ p = omega arith in
          grind (arith, length_pictured, getD_pictured, get_or-set_same, filled_inside area (g * 64) f n (p % 64), at)
      | inr ne ↦ grind (arith, length_pictured, getD_pictured, get_or-set_other, filled_outside area (g * 64) f n p)
    ])

-- a word that is written where its page is in the area
pub painted : (image area : List ℕ) (copied : List Bool) (p w : ℕ) → p < image_size image area → get_or copied (p / 64) false ≡ true → pictured image (set area p w) copied ≡ set (pictured image area copied) p w
painted image area copied p w l there =
    pictured_is image (set area p w) copied (set (pictured image area copied) p w)
    (grind (arith, length_pictured, length-set))
    (λ q lq. elim (cases_eq q p) [
      | inl e ↦ grind (arith, length_pictured, length-set, get_or-set_same)
      | inr ne ↦ grind (arith, length_pictured, length-set, getD_pictured, get_or-set_other)
    ])

-- a word that is written after its page g is copied
pub copied_painted : (image area : List ℕ) (copied : List Bool) (g n p w : ℕ) → p < image_size image area → g ≡ p / 64 → g < length copied → n ≡ min (image_size image area - g * 64) 64 → get_or copied g false ≡ false →
    pictured image (set (filled area (g * 64) (λ k. image_word image (g * 64 + k)) n) p w) (set copied g true) ≡ set (pictured image area copied) p w
copied_painted image area copied g n p w lz e l en fresh =
    let page : List ℕ = filled area (g * 64) (λ k. image_word image (g * 64 + k)) n in
    let lp : p < image_size image page = omega (arith, length_filled area (g * 64) (λ k. image_word image (g * 64 + k)) n) in
    painted image page (set copied g true) p w lp (rw (← e) (get_or-set_same copied g true false l))
    ∙ ap (λ x. set x p w) (brought image area copied g n l en fresh)

-- what the area holds of the pages that are copied
pub area_holds : (image area : List ℕ) (copied : List Bool) (p : ℕ) → p < image_size image area → get_or copied (p / 64) false ≡ true →
    get_or area p 0 ≡ get_or (pictured image area copied) p 0
area_holds image area copied p l e = grind (arith, getD_pictured)
