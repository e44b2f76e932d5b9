use Rattle.std.proofs.Common.{◌≡◌, ◌-◌, ◌<◌, length, Some, None, Ok, Err, vec_items, vec_len, sym, ap, ◌∙◌, arith, rules}
use Rattle.records.specs.Records.{seen}
use Rattle.files.specs.Files.{Placed, ends, filed_by}
use Rattle.files.proofs.Shorter.{none_left, one_more, stops, items_more, items_end, count_more, count_end}
use Rattle.files.proofs.read_records.Goals as goal

-- what is read, where a record follows
read_some : (g : _) (c : goal.After-push_reserved-in-loop-rest g) → g.K.Kinds.one (length c.args.bytes.now - length c.loop-rest.rest.now) c.loop-rest.rest.now ≡ Ok (Some (c.in-Some.call, c.in-Some.next.now))
read_some g c =
    let read : c.read.result ≡ Ok (Some (c.in-Some.call, c.in-Some.next)) = grind arith in
    sym c.read.ensures.value ∙ ap seen read

-- a fault ends the records there
ends_here : (g : _) (c : goal.After-from_residual g) → filed_by g.K.Kinds.one (length c.args.bytes.now - vec_len c.loop-rest.calls) (length c.args.bytes.now - length c.loop-rest.rest.now) c.loop-rest.rest.now ≡ ends (Some c.in_err-call.field-0.0.0)
ends_here g c =
    let read : c.read.result ≡ Err c.in_err-call.field-0.0.0 = grind arith in
    stops g.K.Kinds.one (length c.args.bytes.now) (vec_len c.loop-rest.calls) c.loop-rest.rest.now c.loop-rest.invariant.0 (search rules) _ (sym c.read.ensures.value ∙ ap seen read)

pub returns-in_err-call-clause-places : goal.returns-in_err-call-clause-places
returns-in_err-call-clause-places g c = items_end (λ (p : Placed). p.place) _ _ _ c.loop-rest.invariant.3 _ (ends_here g c)

pub returns-in_err-call-clause-calls : goal.returns-in_err-call-clause-calls
returns-in_err-call-clause-calls g c = items_end (λ (p : Placed). p.call) _ _ _ c.loop-rest.invariant.4 _ (ends_here g c)

pub loop-rest-smaller : goal.loop-rest-smaller
loop-rest-smaller g c = c.read.ensures.shorter _ _ (c.read.ensures.value ∙ read_some g c)

pub loop-rest-preserved : goal.loop-rest-preserved
loop-rest-preserved g c =
    let bs = c.loop-rest.rest.now in
    let inv = c.loop-rest.invariant in
    let shorter = loop-rest-smaller g c in
    let some : 0 < length bs = omega (arith, shorter) in
    let more = one_more g.K.Kinds.one (length c.args.bytes.now) (vec_len c.loop-rest.calls) bs inv.0 some c.in-Some.call c.in-Some.next.now shorter (read_some g c) in
    rw c.push_reserved-in-loop-rest.ensures.len (
      omega (arith, shorter, inv.0),
      omega (arith, shorter, inv.1, c.push_reserved.ensures.len, c.push_reserved.ensures.capacity),
      omega (arith, shorter, inv.2, c.push_reserved-in-loop-rest.ensures.len, c.push_reserved-in-loop-rest.ensures.capacity),
      items_more (λ (p : Placed). p.place) _ _ _ inv.3 (vec_items c.push_reserved.new.self) _ _ more c.push_reserved.ensures.items,
      items_more (λ (p : Placed). p.call) _ _ _ inv.4 (vec_items c.push_reserved-in-loop-rest.new.self) _ _ more c.push_reserved-in-loop-rest.ensures.items,
      count_more (vec_len c.loop-rest.calls) _ _ inv.5 _ _ more,
    )

pub returns : goal.returns
returns g c =
    let bs = c.loop-rest.rest.now in
    let inv = c.loop-rest.invariant in
    let empty : length bs ≡ 0 = search rules in
    let end = none_left g.K.Kinds.one g.met.K.Kinds.at_end _ _ bs empty in
    record {
      places = items_end (λ (p : Placed). p.place) _ _ _ inv.3 None end;
      calls = items_end (λ (p : Placed). p.call) _ _ _ inv.4 None end;
      end = ap (λ (n : _). Ok n) c.len.ensures ∙ count_end _ _ _ inv.5 None end;
    }

pub returns-in_err-call-clause-end : goal.returns-in_err-call-clause-end
returns-in_err-call-clause-end g c =
    let f = c.in_err-call.field-0.0 in
    let told : c.from_residual.result ≡ Err (record { fault = f.0; done = f.1 }) = search rules in
    let done : f.1 ≡ vec_len c.loop-rest.calls = grind arith in
    told ∙ ap (λ (n : _). Err (record { fault = f.0; done = n })) done ∙ count_end _ _ _ c.loop-rest.invariant.5 _ (ends_here g c)
