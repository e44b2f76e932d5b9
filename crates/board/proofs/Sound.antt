-- What every reached state has: the invariant.
use Rattle.std.proofs.Common.{◌≡◌, ℕ, ◌-◌, ◌<◌, ◌≤◌, true, false, eqb, List, length, get_or, replicate, sym, refl, ap, ◌∙◌, subst, arith}
use Rattle.std.proofs.lemmas.Bool.{cond_both}
use Rattle.board.specs.Questions.{is_enclave_number}
use Rattle.board.specs.State.{State, unmapped, blank, idle, absent, fresh, start, map_of, entry_of, enclave_of, owner_of, covers, inside, page_of}
use Rattle.board.specs.declared.Board.{Board}
use Rattle.board.specs.declared.Enclave.{Enclave}
use Rattle.board.specs.declared.Entry.{Entry}
use Rattle.board.proofs.Allowed.{from_one}
use Rattle.board.proofs.Lists.{replicated}
use Rattle.board.proofs.Phases.{phase_code, phase_at}

-- sizes, and maps that lie in memory
pub record Shape (b : Board) : Type 0 where
  pub owners : length b.owners ≡ 64
  pub maps : length b.maps ≡ 9
  pub map : (p : ℕ) → length (map_of b p) ≡ 64
  pub enclaves : length b.enclaves ≡ 8
  pub running : b.running ≤ 8
  pub frames : (p v : ℕ) → (entry_of b p v).frame < 64

abbrev pub permission_of : Board → ℕ → ℕ → ℕ
permission_of b e v = (entry_of b e v).permission

-- enclave e's part
pub record Sound (e : ℕ) (b : Board) : Type 0 where
  pub runs : b.running ≡ e → phase_at b e ≡ 3
  pub back : phase_at b e ≡ 3 → b.running ≡ e
  pub owned : (v : ℕ) → inside b e v ≡ true → (permission_of b e v ≡ 0 → ⊥) → owner_of b (entry_of b e v).frame ≡ e
  pub apart : (v w : ℕ) → inside b e v ≡ true → inside b e w ≡ true → (permission_of b e v ≡ 0 → ⊥) → (permission_of b e w ≡ 0 → ⊥) → (entry_of b e v).frame ≡ (entry_of b e w).frame → v ≡ w
  pub bare : phase_at b e ≡ 0 → (v : ℕ) → entry_of b e v ≡ unmapped
  pub unmarked : phase_at b e ≡ 1 → (v : ℕ) → inside b e v ≡ true → (entry_of b e v).accessed ≡ false
  pub rest : (phase_at b e ≡ 4 → ⊥) → (enclave_of b e).saved ≡ idle
  pub ranged : 1 ≤ phase_at b e → covers (enclave_of b e).first (enclave_of b e).count (page_of (enclave_of b e).entrypoint) ≡ true

pub record Inv (s : State) : Type 0 where
  pub shape : Shape s.board
  pub sound : (e : ℕ) → is_enclave_number e ≡ true → Sound e s.board

-- ---- at the start

fresh_map : (p : ℕ) → map_of fresh p ≡ blank
fresh_map p = replicated (λ (m : List Entry). m ≡ blank) 9 p blank blank refl refl

fresh_entry : (p v : ℕ) → entry_of fresh p v ≡ unmapped
fresh_entry p v = ap (λ (m : List Entry). get_or m v unmapped) (fresh_map p) ∙ replicated (λ (t : Entry). t ≡ unmapped) 64 v unmapped unmapped refl refl

fresh_enclave : (e : ℕ) → enclave_of fresh e ≡ absent
fresh_enclave e = cond_both (eqb e 0) absent (get_or (replicate 8 absent) (e - 1) absent) (λ (r : Enclave). r ≡ absent) (λ _. refl) (λ _. replicated (λ (r : Enclave). r ≡ absent) 8 (e - 1) absent absent refl refl)

pub fresh_shape : Shape fresh
fresh_shape =
    record {
      owners = refl;
      maps = refl;
      map = λ p. ap (λ (m : List Entry). length m) (fresh_map p);
      enclaves = refl;
      running = omega arith;
      frames = λ p v. subst (λ (t : Entry). t.frame < 64) (sym (fresh_entry p v)) (omega arith);
    }

pub fresh_sound : (e : ℕ) → is_enclave_number e ≡ true → Sound e fresh
fresh_sound e i =
    let l = from_one e i in
    let c : phase_at fresh e ≡ 0 = ap (λ (r : Enclave). phase_code r.phase) (fresh_enclave e) in
    let z : (v : ℕ) → permission_of fresh e v ≡ 0 = λ v. ap (λ (t : Entry). t.permission) (fresh_entry e v) in
    record {
      runs = λ q. absurd (omega arith);
      back = λ q. absurd (omega arith);
      owned = λ v h k. absurd (k (z v));
      apart = λ v w h h' k k' q. absurd (k (z v));
      bare = λ q v. fresh_entry e v;
      unmarked = λ q v h. absurd (omega arith);
      rest = λ q. ap (λ (r : Enclave). r.saved) (fresh_enclave e);
      ranged = λ q. absurd (omega arith);
    }

pub start_inv : (ws : List ℕ) → Inv (start ws)
start_inv ws = record { shape = fresh_shape; sound = fresh_sound }
