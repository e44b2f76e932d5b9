-- Phases as numbers, and what the table of phases says of each.
use Rattle.std.proofs.Common.{◌≡◌, ℕ, ◌≤◌, Bool, true, false, refl, arith}
use Rattle.std.proofs.lemmas.Bool.{false≢true}
use Rattle.board.specs.declared.Board.{Board}
use Rattle.board.specs.declared.Enclave.{Enclave}
use Rattle.board.specs.declared.Phase.{Phase}
use Rattle.board.specs.declared.Phase.TheVariants.{Absent, Draft, Ready, Running, Paused}
use Rattle.board.specs.State.{enclave_of, covers}
use Rattle.board.specs.Questions.{by_phase}

abbrev pub phase_code : Phase → ℕ
phase_code Absent = 0
phase_code Draft = 1
phase_code Ready = 2
phase_code Running = 3
phase_code Paused = 4

abbrev pub phase_at : Board → ℕ → ℕ
phase_at b e = phase_code (enclave_of b e).phase

abbrev pub in_range : Enclave → ℕ → Bool
in_range r v = covers r.first r.count v

-- only absent, only a draft, only ready, only paused; any but absent
pub absent_row : (p : Phase) → by_phase true false false false false p ≡ true → phase_code p ≡ 0
absent_row Absent q = refl
absent_row Draft q = absurd (false≢true q)
absent_row Ready q = absurd (false≢true q)
absent_row Running q = absurd (false≢true q)
absent_row Paused q = absurd (false≢true q)

pub draft_row : (p : Phase) → by_phase false true false false false p ≡ true → phase_code p ≡ 1
draft_row Absent q = absurd (false≢true q)
draft_row Draft q = refl
draft_row Ready q = absurd (false≢true q)
draft_row Running q = absurd (false≢true q)
draft_row Paused q = absurd (false≢true q)

pub ready_row : (p : Phase) → by_phase false false true false false p ≡ true → phase_code p ≡ 2
ready_row Absent q = absurd (false≢true q)
ready_row Draft q = absurd (false≢true q)
ready_row Ready q = refl
ready_row Running q = absurd (false≢true q)
ready_row Paused q = absurd (false≢true q)

pub paused_row : (p : Phase) → by_phase false false false false true p ≡ true → phase_code p ≡ 4
paused_row Absent q = absurd (false≢true q)
paused_row Draft q = absurd (false≢true q)
paused_row Ready q = absurd (false≢true q)
paused_row Running q = absurd (false≢true q)
paused_row Paused q = refl

pub there_row : (p : Phase) → by_phase false true true true true p ≡ true → 1 ≤ phase_code p
there_row Absent q = absurd (false≢true q)
there_row Draft q = omega arith
there_row Ready q = omega arith
there_row Running q = omega arith
there_row Paused q = omega arith

pub code_absent : (p : Phase) → phase_code p ≡ 0 → p ≡ Absent
code_absent Absent q = refl
code_absent Draft q = absurd (omega arith)
code_absent Ready q = absurd (omega arith)
code_absent Running q = absurd (omega arith)
code_absent Paused q = absurd (omega arith)
