-- Each accepted call keeps the sizes, and the maps in memory.
use Rattle.std.proofs.Common.{◌≡◌, ℕ, ◌<◌, ◌≤◌, true, false, ◌&&◌, ltb, leb, List, length, get_or, set, refl, ◌∙◌, arith, length-set}
use Rattle.std.proofs.lemmas.Bool.{ltb-true}
use Rattle.digest.specs.Meaning.{Meaning}
use Rattle.board.specs.Effects.{with_enclave, with_map, with_entry, with_owners, switched, marked, released, removed, effect}
use Rattle.board.specs.Questions.{is_enclave_number}
use Rattle.board.specs.State.{State, unmapped, blank, absent, map_of, entry_of, page_of}
use Rattle.board.specs.declared.Board.{Board}
use Rattle.board.specs.declared.Call.{Call}
use Rattle.board.specs.declared.Call.TheVariants.{Open, Add, Finish, Abandon, Destroy, Enter, Resume, Exit, Pause, Load, Store, Fetch, ReadRegister, WriteRegister, ReadMap, WriteMap, Attest}
use Rattle.board.specs.declared.Context.{Context}
use Rattle.board.specs.declared.Enclave.{Enclave}
use Rattle.board.specs.declared.Entry.{Entry}
use Rattle.board.proofs.Allowed.{Allowed, up_to_eight}
use Rattle.board.proofs.Lists.{replicated, third}
use Rattle.board.proofs.Moves.{at_set, length_enclaves, length_released}
use Rattle.board.proofs.Sound.{Shape}

pub shape_map : (b : Board) (p : ℕ) (m : List Entry) → length m ≡ 64 → ((v : ℕ) → (get_or m v unmapped).frame < 64) → Shape b → Shape (with_map b p m)
shape_map b p m n f s =
    record {
      owners = s.owners;
      maps = length-set b.maps p m ∙ s.maps;
      map = λ q. at_set (λ (l : List Entry). length l ≡ 64) b.maps p q m blank (λ k. n) (s.map q);
      enclaves = s.enclaves;
      running = s.running;
      frames = λ q v. at_set (λ (l : List Entry). (get_or l v unmapped).frame < 64) b.maps p q m blank (λ k. f v) (s.frames q v);
    }

pub shape_entry : (b : Board) (p v : ℕ) (t : Entry) → t.frame < 64 → Shape b → Shape (with_entry b p v t)
shape_entry b p v t f s =
    shape_map b p (set (map_of b p) v t) (length-set (map_of b p) v t ∙ s.map p) (λ w. at_set (λ (x : Entry). x.frame < 64) (map_of b p) v w t unmapped (λ k. f) (s.frames p w)) s

pub shape_enclave : (b : Board) (e : ℕ) (r : Enclave) → Shape b → Shape (with_enclave b e r)
shape_enclave b e r s = record { owners = s.owners; maps = s.maps; map = s.map; enclaves = length_enclaves b e r ∙ s.enclaves; running = s.running; frames = s.frames }

pub shape_owners : (b : Board) (os : List ℕ) → length os ≡ 64 → Shape b → Shape (with_owners b os)
shape_owners b os n s = record { owners = n; maps = s.maps; map = s.map; enclaves = s.enclaves; running = s.running; frames = s.frames }

pub shape_switched : (b : Board) (p : ℕ) (x y : Context) → p ≤ 8 → Shape b → Shape (switched b p x y)
shape_switched b p x y n s = record { owners = s.owners; maps = s.maps; map = s.map; enclaves = s.enclaves; running = n; frames = s.frames }

blank_frame : (v : ℕ) → (get_or blank v unmapped).frame < 64
blank_frame v = replicated (λ (t : Entry). t.frame < 64) 64 v unmapped unmapped (omega arith) (omega arith)

pub shape_marked : (b : Board) (a : ℕ) → Shape b → Shape (marked b a)
shape_marked b a s = shape_entry b b.running (page_of a) (record { frame = (entry_of b b.running (page_of a)).frame; permission = (entry_of b b.running (page_of a)).permission; accessed = true }) (s.frames b.running (page_of a)) s

shape_removed : (s : State) (e : ℕ) → Shape s.board → Shape (removed s e).board
shape_removed s e h =
    shape_enclave (with_map (with_owners s.board (released s.board.owners e)) e blank) e absent
    (shape_map (with_owners s.board (released s.board.owners e)) e blank refl blank_frame
    (shape_owners s.board (released s.board.owners e) (length_released s.board.owners e ∙ h.owners) h))

pub effect_shape : (h : Meaning) (key : List ℕ) (c : Call) (s : State) → Shape s.board → Allowed c s → Shape (effect h key c s).state.board
effect_shape h key (Open e first count entry) s i y = shape_enclave s.board e _ i
effect_shape h key (Add e v f permission) s i y =
    shape_owners (with_entry s.board e v (record { frame = f; permission = permission; accessed = false })) (set s.board.owners f e) (length-set s.board.owners f e ∙ i.owners)
    (shape_entry s.board e v (record { frame = f; permission = permission; accessed = false }) (ltb-true f 64 (third (is_enclave_number e) (ltb v 64) (ltb f 64) (leb 1 permission && leb permission 7) y.1.1.0)) i)
effect_shape h key (Finish e) s i y = shape_enclave s.board e _ i
effect_shape h key (Abandon e) s i y = shape_removed s e i
effect_shape h key (Destroy e) s i y = shape_removed s e i
effect_shape h key (Enter e) s i y = shape_switched (with_enclave s.board e _) e _ _ (up_to_eight e y.1.1.0) (shape_enclave s.board e _ i)
effect_shape h key (Resume e) s i y = shape_switched (with_enclave s.board e _) e _ _ (up_to_eight e y.1.1.0) (shape_enclave s.board e _ i)
effect_shape h key Exit s i y = shape_switched (with_enclave s.board s.board.running _) 0 _ _ (omega arith) (shape_enclave s.board s.board.running _ i)
effect_shape h key Pause s i y = shape_switched (with_enclave s.board s.board.running _) 0 _ _ (omega arith) (shape_enclave s.board s.board.running _ i)
effect_shape h key (Load a) s i y = shape_marked s.board a i
effect_shape h key (Store a w) s i y = shape_marked s.board a i
effect_shape h key (Fetch a) s i y = shape_switched (marked s.board a) s.board.running _ _ i.running (shape_marked s.board a i)
effect_shape h key (ReadRegister n) s i y = i
effect_shape h key (WriteRegister n w) s i y = shape_switched s.board s.board.running _ _ i.running i
effect_shape h key (ReadMap p v) s i y = i
effect_shape h key (WriteMap p v f permission) s i y =
    shape_entry s.board p v (record { frame = f; permission = permission; accessed = false }) (ltb-true f 64 (third (leb p 8) (ltb v 64) (ltb f 64) (leb permission 7) y.1.1.0)) i
effect_shape h key (Attest w) s i y = i
