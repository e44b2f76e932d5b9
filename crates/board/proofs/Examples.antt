-- The examples meet the premises.
use Rattle.std.proofs.Common.{◌≡◌, ℕ, suc, ◌<◌, List, [], ◌∷◌, ◌++◌, length, get_or, take, drop, replicate, refl, ap, inl, inr, arith}
use lib.Seq.{split_at}
use Rattle.std.proofs.lemmas.Bool.{true≢false}
use Rattle.digest.specs.Fold.{fold_meaning}
use Rattle.board.specs.Examples.{events, zeros, built, hides, looks, secret_calls, secret_events, TwoSecretsLookAlike, pick, busier_events, choose, HostsChooseAlike, one_life, other_words, other_life, led, ALifeIsLedTwice, ALifeIsCutShort}
use Rattle.board.specs.Lives.{Finished, Life, Private}
use Rattle.board.specs.Sight.{DifferOnlyInward, PickedBy, ChosenBy}
use Rattle.board.specs.State.{start}
use Rattle.board.specs.Steps.{step, Event, event}
use Rattle.board.specs.declared.Call.TheVariants.{Exit, Load, Attest}
use Rattle.board.proofs.Finishes.{law_of_measurements}
use Rattle.board.proofs.Secret.{law_of_sight, law_of_choosing_hosts}
use Rattle.board.proofs.Undisturbed.{law_of_lives}

differ : DifferOnlyInward 1 (secret_events 7) (secret_events 9)
differ = (
  inl refl,
  (
    inl refl,
    (
      inl refl,
      (
        inl refl,
        (
          inl refl,
          (
            inr (refl, refl),
            (
              inr (refl, refl),
              (inl refl, (inl refl, (inl refl, (inl refl, (inl refl, (inl refl, (inl refl, (inl refl, tt)))))))),
            ),
          ),
        ),
      ),
    ),
  ),
)

pub two_secrets : TwoSecretsLookAlike
two_secrets =
    record {
      differ = differ;
      private_differs = λ q. (let z : ◌≡◌ {A = ℕ} 7 9 = ap (λ (p : Private). get_or p.context.registers 3 0) q in omega arith);
      told = refl;
      same = law_of_sight fold_meaning (replicate 8 0) zeros (secret_calls 7) (secret_calls 9) 1 refl differ;
    }

pub hosts_choose : HostsChooseAlike
hosts_choose =
    let quick : PickedBy pick 1 [] (secret_events 7) = (λ _. refl, (λ _. refl, (λ _. refl, (λ _. refl, (λ _. refl, (λ q. absurd (true≢false q), (λ q. absurd (true≢false q), (λ _. refl, (λ _. refl, (λ _. refl, (λ _. refl, (λ _. refl, (λ _. refl, (λ _. refl, (λ _. refl, tt))))))))))))))) in
    let busy : PickedBy pick 1 [] busier_events = (λ _. refl, (λ _. refl, (λ _. refl, (λ _. refl, (λ _. refl, (λ q. absurd (true≢false q), (λ q. absurd (true≢false q), (λ q. absurd (true≢false q), (λ q. absurd (true≢false q), (λ _. refl, (λ _. refl, (λ _. refl, (λ _. refl, (λ _. refl, (λ _. refl, (λ _. refl, (λ _. refl, tt))))))))))))))))) in
    let seven : ChosenBy choose 1 [] (secret_events 7) = (refl, (refl, (refl, (refl, (refl, (refl, (refl, (refl, (refl, (refl, (refl, (refl, (refl, (refl, (refl, tt))))))))))))))) in
    let nine : ChosenBy choose 1 [] (secret_events 9) = (refl, (refl, (refl, (refl, (refl, (refl, (refl, (refl, (refl, (refl, (refl, (refl, (refl, (refl, (refl, tt))))))))))))))) in
    let law = law_of_choosing_hosts fold_meaning in
    record {
      quick_picked = quick;
      busy_picked = busy;
      noticed_alike = law.picking (replicate 8 0) zeros (secret_calls 7) (built ++ (hides 9 ++ (Load 704 ∷ Attest 1 ∷ looks))) 1 refl pick quick busy refl;
      seven_chosen = seven;
      nine_chosen = nine;
      seen_alike = law.counting (replicate 8 0) zeros (secret_calls 7) (secret_calls 9) 1 refl choose seven nine refl;
    }

no_event : Event
no_event = event Exit (start []) (step fold_meaning [] Exit (start []))

-- the life that begins with the event at place n
life_at : (e n : ℕ) (xs : List Event) → n < length xs → Finished e (get_or xs n no_event) → Life e xs
life_at e n xs l f = record { earlier = take n xs; finish = get_or xs n no_event; later = drop (suc n) xs; whole = split_at xs n no_event l; finished = f }

pub led_twice : ALifeIsLedTwice
unfolding life_at no_event
led_twice =
    let one : Life 1 (events zeros one_life) = life_at 1 6 (events zeros one_life) (omega arith) (record { call = refl; accepted = refl }) in
    let other : Life 4 (events other_words other_life) = life_at 4 6 (events other_words other_life) (omega arith) (record { call = refl; accepted = refl }) in
    record {
      one = one;
      other = other;
      measured = refl;
      one_led = refl;
      other_led = refl;
      one_outside = refl;
      other_outside = refl;
      accepted = refl;
      alike = (law_of_lives fold_meaning).alike (replicate 8 0) zeros other_words one_life other_life 1 4 one other refl refl refl;
      built_alike = (law_of_measurements fold_meaning (replicate 8 0) (replicate 8 0) zeros other_words one_life other_life 1 4 one other).0 refl;
      at_one = refl;
      at_other = refl;
    }

pub cut_short : ALifeIsCutShort
unfolding life_at no_event
cut_short =
    let short : Life 1 (events zeros (take 11 one_life)) = life_at 1 6 (events zeros (take 11 one_life)) (omega arith) (record { call = refl; accepted = refl }) in
    let long : Life 4 (events other_words other_life) = life_at 4 6 (events other_words other_life) (omega arith) (record { call = refl; accepted = refl }) in
    record {
      short = short;
      long = long;
      short_led = refl;
      so_far = (law_of_lives fold_meaning).so_far (replicate 8 0) zeros other_words (take 11 one_life) other_life 1 4 short long refl (drop 4 led, refl) ([], refl);
    }
