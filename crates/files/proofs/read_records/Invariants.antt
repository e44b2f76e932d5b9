use Rattle.std.proofs.Common.{◌≡◌, ◌+◌, ◌-◌, ◌≤◌, ◌++◌, length, vec_items, vec_len, vec_capacity}
use Rattle.files.specs.Files.{filed_by, places_of, calls_of, ended, end_by}
use Rattle.files.proofs.read_records.Given as goal

-- the records read so far, and then those of the rest, are those of the whole
abbrev pub invariant-loop-rest : goal.invariant-loop-rest
invariant-loop-rest g l =
    let one = g.K.Kinds.one in
    let all = filed_by one (length l.bytes) 0 l.bytes in
    let more = filed_by one (length l.bytes - vec_len l.calls) (length l.bytes - length l.rest) l.rest in
    (vec_len l.calls + length l.rest ≤ length l.bytes)
    × (vec_len l.places + length l.rest ≤ vec_capacity l.places)
    × (vec_len l.calls + length l.rest ≤ vec_capacity l.calls)
    × (vec_items l.places ++ places_of more ≡ vec_items l.initial.places ++ places_of all)
    × (vec_items l.calls ++ calls_of more ≡ vec_items l.initial.calls ++ calls_of all)
    × (end_by (vec_len l.calls + length more.records) more.fault ≡ ended all)

abbrev pub decreases-loop-rest : goal.decreases-loop-rest
decreases-loop-rest g l = length l.rest
