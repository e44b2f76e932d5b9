-- Under the changed rules the host is answered the secret.
use Rattle.std.proofs.Common.{◌≡◌, ℕ, List, [], map, get_or, refl, ap, inl, inr, arith}
use Rattle.board.specs.Answers.{declining}
use Rattle.board.specs.Leaks.{LeaksAreTold}
use Rattle.board.specs.Sight.{Sighting}

-- the first word that others are answered at a place
heard : ℕ → List Sighting → ℕ
heard place l = get_or (get_or (get_or (map (λ (x : Sighting). x.answered) l) place []) 0 (declining 0)).words 0 0

pub leaks : LeaksAreTold
unfolding heard
leaks =
    record {
      by_words = record {
        differ = (inl refl, (inl refl, (inl refl, (inl refl, (inl refl, (inr (refl, refl), (inr (refl, refl), (inl refl, (inl refl, (inl refl, (inl refl, (inl refl, (inl refl, (inl refl, (inl refl, tt)))))))))))))));
        told_seven = refl;
        told_nine = refl;
        seen_apart = λ q. (let z : ◌≡◌ {A = ℕ} 7 9 = ap (λ (l : List Sighting). heard 14 l) q in omega arith);
      };
      by_registers = record {
        differ = (inl refl, (inl refl, (inl refl, (inl refl, (inl refl, (inr (refl, refl), (inr (refl, refl), (inl refl, (inl refl, (inl refl, (inl refl, (inl refl, (inl refl, (inl refl, (inl refl, tt)))))))))))))));
        told_seven = refl;
        told_nine = refl;
        seen_apart = λ q. (let z : ◌≡◌ {A = ℕ} 7 9 = ap (λ (l : List Sighting). heard 8 l) q in omega arith);
      };
    }
