-- What the image memory means, and where its words lie. Assumes nothing.
use Rattle.std.specs.Prelude.{ℕ, ◌+◌, ◌-◌, ◌*◌, ◌/◌, min, Bool, true, false, cond, List, map, length, nat_lt, slice_index, slice_index_or, slice_set}
use Rattle.std.specs.List.{range_with_len}
use Rattle.memory.specs.Fills.{filled}
use Rattle.memory.specs.declared.image.ImageMemory.{ImageMemory}

-- the word at a place of an image: four bytes, the highest first
abbrev pub image_word : List ℕ → ℕ → ℕ
image_word image p = slice_index image (p * 4) * 16777216 + slice_index image (p * 4 + 1) * 65536 + slice_index image (p * 4 + 2) * 256 + slice_index image (p * 4 + 3)

-- the least of the image's whole words, the area's words and 4,096
abbrev pub image_size : List ℕ → List ℕ → ℕ
image_size image area = min (min (length image / 4) (length area)) 4096

-- the word at a place: the area's where its page is copied, else the image's
abbrev pub shown : List ℕ → List ℕ → List Bool → ℕ → ℕ
shown image area copied p = cond (slice_index_or copied (p / 64) false) (slice_index area p) (image_word image p)

-- the words that the memory means
unfoldable pub pictured : List ℕ → List ℕ → List Bool → List ℕ
pictured image area copied = map (shown image area copied) (range_with_len 0 (image_size image area))

-- the same, of a memory
abbrev pub meant : ImageMemory → List ℕ
meant m = pictured m.image.now m.area.now m.copied

-- the first n words of an image
abbrev pub image_words : List ℕ → ℕ → List ℕ
image_words image n = map (image_word image) (range_with_len 0 n)

-- the area once the page of a place is copied to the same places, as far as the size reaches
abbrev pub page_copied : List ℕ → List ℕ → ℕ → List ℕ
page_copied image area p =
    filled area (p / 64 * 64) (λ k. image_word image (p / 64 * 64 + k)) (min (image_size image area - p / 64 * 64) 64)

-- the area after a write: the first write to a page copies it, and then the word is put in
abbrev pub area_after : List ℕ → List ℕ → List Bool → ℕ → ℕ → List ℕ
area_after image area copied p w =
    cond (nat_lt p (image_size image area)) (slice_set (cond (slice_index_or copied (p / 64) false) area (page_copied image area p)) p w) area

-- the pages that are copied after a write
abbrev pub pages_after : List ℕ → List ℕ → List Bool → ℕ → List Bool
pages_after image area copied p = cond (nat_lt p (image_size image area)) (slice_set copied (p / 64) true) copied
