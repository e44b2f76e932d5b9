-- A search finds this too, but takes long at seven bytes.
use Rattle.std.proofs.Common.{◌≡◌, ℕ, List, [], ◌∷◌, get_or, ap, ◌∙◌, rules}
use Rattle.records.specs.Records.{recorded, placed, counted}
use Rattle.records.proofs.writer.put_call.Goals as goal

pub returns-in-Store : goal.returns-in-Store
returns-in-Store c =
    let buffer = c.args.buffer.now in
    let put = c.put-in-Store.ensures in
    let a = c.to_be_bytes-in-Store.result in
    let w = c.to_be_bytes-in-Store-2.result in
    let bytes : List ℕ = c.kind-kind.result ∷ get_or a 0 0 ∷ get_or a 1 0 ∷ get_or w 0 0 ∷ get_or w 1 0 ∷ get_or w 2 0 ∷ get_or w 3 0 ∷ [] in
    let same : bytes ≡ recorded c.args.call = simp (c.kind-kind.ensures, c.in-Store.is, c.to_be_bytes-in-Store.ensures, c.to_be_bytes-in-Store-2.ensures) in
    record {
      after = put.after ∙ ap (λ (bs : List ℕ). placed bs buffer) same;
      count = put.count ∙ ap (λ (bs : List ℕ). counted bs buffer) same;
      fits = search rules;
    }
