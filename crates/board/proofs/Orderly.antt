-- What the proof of the law of sight uses of the invariant.
use Rattle.std.proofs.Common.{◌≡◌, ℕ, ◌≤◌, true, length, sym, refl, ap, ◌∙◌, subst, inl, inr, arith}
use Rattle.std.proofs.lemmas.Bool.{cases_eq}
use Rattle.board.specs.Effects.{with_enclave}
use Rattle.board.specs.State.{State, map_of, entry_of, enclave_of, owner_of, makes_range, inside, page_of}
use Rattle.board.specs.declared.Board.{Board}
use Rattle.board.specs.declared.Enclave.{Enclave}
use Rattle.board.proofs.Allowed.{enclave_is}
use Rattle.board.proofs.Lists.{range_of}
use Rattle.board.proofs.Moves.{enclave_new, enclave_other}
use Rattle.board.proofs.Phases.{phase_at}
use Rattle.board.proofs.Sound.{Inv}

pub record Orderly (b : Board) : Type 0 where
  pub owners : length b.owners ≡ 64
  pub maps : length b.maps ≡ 9
  pub pages : (p : ℕ) → length (map_of b p) ≡ 64
  pub enclaves : length b.enclaves ≡ 8
  pub runner : b.running ≤ 8
  pub runs : (b.running ≡ 0 → ⊥) → phase_at b b.running ≡ 3
  pub ranged : (d : ℕ) → 1 ≤ d → d ≤ 8 → 1 ≤ phase_at b d → makes_range (enclave_of b d).first (enclave_of b d).count ≡ true
  pub owned : (d v : ℕ) → 1 ≤ d → d ≤ 8 → inside b d v ≡ true → ((entry_of b d v).permission ≡ 0 → ⊥) → owner_of b (entry_of b d v).frame ≡ d

pub orderly : (s : State) → Inv s → Orderly s.board
orderly s i =
    let b = s.board in
    let up = i.shape.running in
    record {
      owners = i.shape.owners;
      maps = i.shape.maps;
      pages = i.shape.map;
      enclaves = i.shape.enclaves;
      runner = up;
      runs = λ ne. (i.sound b.running (enclave_is b.running (omega arith) up)).runs refl;
      ranged = λ d lo hi z. range_of (enclave_of b d).first (enclave_of b d).count (page_of (enclave_of b d).entrypoint) ((i.sound d (enclave_is d lo hi)).ranged z);
      owned = λ d v lo hi. (i.sound d (enclave_is d lo hi)).owned v;
    }

pub enclave_after : (P : Enclave → Type 0) (b : Board) (d c : ℕ) (r : Enclave) → length b.enclaves ≡ 8 → 1 ≤ d → d ≤ 8 → 1 ≤ c
    → (c ≡ d → P r) → ((c ≡ d → ⊥) → P (enclave_of b c)) → P (enclave_of (with_enclave b d r) c)
enclave_after P b d c r n lo hi cl at other =
    elim (cases_eq c d) [
      | inl q ↦ subst P (sym (ap (λ (k : ℕ). enclave_of (with_enclave b d r) k) q ∙ enclave_new b d r lo hi n)) (at q)
      | inr q ↦ subst P (sym (enclave_other b d c r lo cl q)) (other q)
    ]
