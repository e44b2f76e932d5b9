-- What an enclave does inward, nobody else can tell: two runs, call by call.
use Rattle.std.proofs.Common.{◌≡◌, ℕ, ◌/◌, ◌<◌, ◌≤◌, Bool, true, false, cond, not, ◌&&◌, ◌||◌, eqb, ◌⊎◌, List, [], ◌∷◌, length, sym, refl, ap, ◌∙◌, subst, ap₂, inl, inr, arith}
use Rattle.std.proofs.lemmas.Bool.{cases_eq, cases_Bool, eqb-true, cond-true, cond-false, ne_eqb, eq-eqb, cond_both, and_parts, or_cases, not-true, not-false, true≢false, and_cases, and_left}
use Rattle.digest.specs.Meaning.{Meaning}
use Rattle.board.specs.Answers.{Reply, declining}
use Rattle.board.specs.Effects.{on_board, with_entry, marked, effect}
use Rattle.board.specs.Examples.{choose}
use Rattle.board.specs.Kinds.{Kind, destroying, entering, resuming, leaving, accessing, plain, kind_of}
use Rattle.board.specs.Questions.{ask, host_runs, is_enclave_number, rightful_owner, questions, decision}
use Rattle.board.specs.Sight.{outward_kind, outward, inward, DifferOnlyInward, seen, LooksTheSame, Sighting, sighting, sightings, LawOfSight, GoUnseen, noticed, all_noticed, PickedBy, Choice, turn, picked, AsChosen, ChosenBy, LawOfChoosingHosts}
use Rattle.board.specs.State.{State, start, entry_of, owner_of, inside, page_of, place_of}
use Rattle.board.specs.Steps.{step, Event, event, run}
use Rattle.board.specs.declared.Board.{Board}
use Rattle.board.specs.declared.Call.{Call}
use Rattle.board.specs.declared.Call.TheVariants.{Open, Add, Finish, Abandon, Destroy, Enter, Resume, Exit, Pause, Load, Store, Fetch, ReadRegister, WriteRegister, ReadMap, WriteMap, Attest}
use Rattle.board.specs.declared.Phase.{Phase}
use Rattle.board.proofs.Allowed.{Yes, allowed, step_is, from_one, host_zero}
use Rattle.board.proofs.Looks.{inside_same, looks_refl, looks_sym, looks_trans, seen_same, hidden_entry, hidden_word, hidden_live}
use Rattle.board.proofs.Orderly.{Orderly, orderly}
use Rattle.board.proofs.Phases.{phase_code, phase_at}
use Rattle.board.proofs.Rows.{asked_alike}
use Rattle.board.proofs.Same.{After, questions_alike, effect_after}
use Rattle.board.proofs.Sound.{Inv, start_inv}
use Rattle.board.proofs.Subject.{step_inv}

-- ---- an inward call of the enclave

module _ (e : ℕ) (s : State) (is : is_enclave_number e ≡ true) (hs : Orderly s.board) (runs : s.board.running ≡ e) where
  not_host : host_runs s.board ≡ true → ⊥
  not_host k = let lo = from_one e is in let z = host_zero s.board k in omega arith

  inside_mine : (v : ℕ) → inside s.board s.board.running v ≡ true → inside s.board e v ≡ true
  inside_mine v i = subst (λ (k : ℕ). inside s.board k v ≡ true) runs i

  hidden_marked : (a : ℕ) → inside s.board s.board.running (page_of a) ≡ true → LooksTheSame e s (on_board s (marked s.board a))
  hidden_marked a i =
      let x = entry_of s.board s.board.running (page_of a) in
      subst (λ (k : ℕ). LooksTheSame e s (on_board s (with_entry s.board k (page_of a) (record { frame = x.frame; permission = x.permission; accessed = true })))) (sym runs)
      (hidden_entry e s is hs (page_of a) (record { frame = x.frame; permission = x.permission; accessed = true }) (inside_mine (page_of a) i))

  mine : (a : ℕ) → inside s.board s.board.running (page_of a) ≡ true
      → eqb (owner_of s.board (entry_of s.board s.board.running (page_of a)).frame) (rightful_owner s.board a) ≡ true
      → owner_of s.board (place_of s.board a / 64) ≡ e
  mine a i k =
      let b = s.board in
      let f = (entry_of b b.running (page_of a)).frame in
      let n : place_of b a / 64 ≡ f = omega arith in
      ap (owner_of b) n ∙ eqb-true (owner_of b f) (rightful_owner b a) k
      ∙ cond-true (inside b b.running (page_of a)) b.running 0 i ∙ runs

  fetched : (v : ℕ) → (host_runs s.board || inside s.board s.board.running v) ≡ true → inside s.board s.board.running v ≡ true
  fetched v k =
      elim (or_cases (host_runs s.board) (inside s.board s.board.running v) k) [ inl y ↦ absurd (not_host y) | inr y ↦ y ]

  hidden_effect : (dig : Meaning) (key : List ℕ) (c : Call) → outward s.board c ≡ false → Yes (questions c s.board) → LooksTheSame e s (effect dig key c s).state
  hidden_effect dig key (Open d first count entry) o a = absurd (not_host a.0)
  hidden_effect dig key (Add d v f permission) o a = absurd (not_host a.0)
  hidden_effect dig key (Finish d) o a = absurd (not_host a.0)
  hidden_effect dig key (Abandon d) o a = absurd (not_host a.0)
  hidden_effect dig key (Destroy d) o a = absurd (not_host a.0)
  hidden_effect dig key (Enter d) o a = absurd (not_host a.0)
  hidden_effect dig key (Resume d) o a = absurd (not_host a.0)
  hidden_effect dig key Exit o a = absurd (true≢false o)
  hidden_effect dig key Pause o a = absurd (true≢false o)
  hidden_effect dig key (Load a) o k = hidden_marked a (not-false (inside s.board s.board.running (page_of a)) o)
  hidden_effect dig key (Store a w) o k =
      let i = not-false (inside s.board s.board.running (page_of a)) o in
      let u = on_board s (marked s.board a) in
      looks_trans e s u (effect dig key (Store a w) s).state (hidden_marked a i) (hidden_word e u (place_of s.board a) w (mine a i k.1.1.0))
  hidden_effect dig key (Fetch a) o k =
      let u = on_board s (marked s.board a) in
      looks_trans e s u (effect dig key (Fetch a) s).state (hidden_marked a (fetched (page_of a) k.1.0)) (hidden_live e u _ runs)
  hidden_effect dig key (ReadRegister n) o a = looks_refl e s
  hidden_effect dig key (WriteRegister n w) o a = hidden_live e s _ runs
  hidden_effect dig key (ReadMap p v) o a = looks_refl e s
  hidden_effect dig key (WriteMap p v f permission) o a = absurd (not_host a.0)
  hidden_effect dig key (Attest w) o a = looks_refl e s

  pub hidden_step : (dig : Meaning) (key : List ℕ) (c : Call) → outward s.board c ≡ false → LooksTheSame e s (step dig key c s).state
  hidden_step dig key c o = step_is (λ x. LooksTheSame e s x.state) dig key c s (λ z. hidden_effect dig key c o (allowed c s z).1) (λ _. looks_refl e s)

-- ---- two states of two runs

-- They are equal, or the enclave has been finished and they look the same to others.
pub record Close (e : ℕ) (s t : State) : Type 0 where
  pub left : Inv s
  pub right : Inv t
  pub either : (s ≡ t) ⊎ ((2 ≤ phase_at s.board e) × LooksTheSame e s t)

pub close_looks : (e : ℕ) (s t : State) → Close e s t → LooksTheSame e s t
close_looks e s t c =
    elim c.either [
      | inl q ↦ subst (λ (u : State). LooksTheSame e s u) q (looks_refl e s)
      | inr k ↦ k.1
    ]

close_refl : (e : ℕ) (s : State) → Inv s → Close e s s
close_refl e s i = record { left = i; right = i; either = inl refl }

close_sym : (e : ℕ) (s t : State) → Close e s t → Close e t s
close_sym e s t c =
    record {
      left = c.right;
      right = c.left;
      either = elim c.either [
        | inl q ↦ inl (sym q)
        | inr k ↦ inr (subst (λ (p : Phase). 2 ≤ phase_code p) k.1.phase k.0, looks_sym e s t k.1)
      ];
    }

close_seen : (e : ℕ) → is_enclave_number e ≡ true → (s t : State) → Close e s t → seen e s ≡ seen e t
close_seen e is s t c = seen_same e s t is (close_looks e s t c) (orderly s c.left) (orderly t c.right)

-- whether a call is outward follows from what others see
same_outward : (e : ℕ) (s t : State) → is_enclave_number e ≡ true → LooksTheSame e s t → s.board.running ≡ e → (k : Kind) → outward_kind s.board k ≡ outward_kind t.board k
same_outward e s t is h r k = go k
  where
    here : (v : ℕ) → inside s.board s.board.running v ≡ inside t.board t.board.running v
    here v =
        ap (λ (k : ℕ). inside s.board k v) r ∙ inside_same s.board t.board e v h.first h.count ∙ ap (λ (k : ℕ). inside t.board k v) (sym r ∙ h.running)

    go : (k : Kind) → outward_kind s.board k ≡ outward_kind t.board k
    go (destroying d) = refl
    go (entering d) = refl
    go (resuming d) = refl
    go leaving = refl
    go (accessing a) = ap not (here (page_of a))
    go plain = refl

-- one call in each of two runs: others are answered and see the same, and the states are close
record Stepped (e : ℕ) (x y : Event) : Type 0 where
  sighted : sighting e x ≡ sighting e y
  close : Close e x.after y.after

same_sighting : (e : ℕ) (x y : Event) → inward e x ≡ inward e y → (inward e x ≡ false → x.reply ≡ y.reply) → seen e x.after ≡ seen e y.after → sighting e x ≡ sighting e y
same_sighting e x y same f after = λ i. record { answered = answered i; after = after i }
  where
    go : (b : Bool) → (b ≡ false → x.reply ≡ y.reply) → cond b [] (x.reply ∷ []) ≡ cond b [] (y.reply ∷ [])
    go true f = refl
    go false f = ap (λ (r : Reply). r ∷ []) (f refl)

    answered : cond (inward e x) [] (x.reply ∷ []) ≡ cond (inward e y) [] (y.reply ∷ [])
    answered = go (inward e x) f ∙ ap (λ (b : Bool). cond b [] (y.reply ∷ [])) same

module _ (h : Meaning) (key : List ℕ) (e : ℕ) (is : is_enclave_number e ≡ true) where
  abbrev made : Call → State → Event
  made c s = event c s (step h key c s)

  inward_is : (b : Board) (c : Call) → (eqb b.running e && not (outward b c)) ≡ true → (b.running ≡ e) × (outward b c ≡ false)
  inward_is b c i = let p = and_parts (eqb b.running e) (not (outward b c)) i in (eqb-true b.running e p.0, not-true (outward b c) p.1)

  inward_not : (b : Board) (c : Call) → (eqb b.running e && not (outward b c)) ≡ false → b.running ≡ e → outward b c ≡ true
  inward_not b c i r =
      elim (and_cases (eqb b.running e) (not (outward b c)) i) [
        | inl y ↦ absurd (true≢false (sym (eq-eqb b.running e r) ∙ y))
        | inr y ↦ not-false (outward b c) y
      ]

  -- whether a call is inward follows from what others see
  same_inward : (s t : State) → LooksTheSame e s t → (c : Call) → inward e (made c s) ≡ inward e (made c t)
  same_inward s t k c =
      elim (cases_eq s.board.running e) [
        | inl q ↦ ap₂ (λ (r : ℕ) (o : Bool). eqb r e && not o) k.running (same_outward e s t is k q (kind_of c))
        | inr q ↦ and_left (eqb s.board.running e) (not (outward s.board c)) (ne_eqb s.board.running e q)
            ∙ sym (and_left (eqb t.board.running e) (not (outward t.board c)) (ne_eqb t.board.running e (λ z. q (k.running ∙ z))))
      ]

  -- an inward call in one run alone leaves the states close
  inward_left : (s t : State) → Close e s t → (c : Call) → inward e (made c s) ≡ true → Close e (step h key c s).state t
  inward_left s t k c i =
      let p = inward_is s.board c i in
      let x = hidden_step e s is (orderly s k.left) p.0 h key c p.1 in
      let lo = from_one e is in
      let z = (orderly s k.left).runs (λ w. omega arith) in
      let u = subst (λ (n : ℕ). phase_at s.board n ≡ 3) p.0 z in
      let v = ap phase_code x.phase in
      record {
        left = step_inv h key c s k.left;
        right = k.right;
        either = inr (omega arith, looks_trans e (step h key c s).state s t (looks_sym e s (step h key c s).state x) (close_looks e s t k));
      }

  inward_right : (s t : State) → Close e s t → (d : Call) → inward e (made d t) ≡ true → Close e s (step h key d t).state
  inward_right s t k d j = close_sym e (step h key d t).state s (inward_left t s (close_sym e s t k) d j)

  both_inward : (s t : State) → Close e s t → (c d : Call) → inward e (made c s) ≡ true → inward e (made d t) ≡ true → Stepped e (made c s) (made d t)
  both_inward s t k c d i j =
      let close = inward_right (step h key c s).state t (inward_left s t k c i) d j in
      record {
        sighted =
            same_sighting e (made c s) (made d t) (i ∙ sym j) (λ n. absurd (true≢false (sym i ∙ n)))
            (close_seen e is (step h key c s).state (step h key d t).state close);
        close = close;
      }

  not_inward : (s t : State) → Close e s t → (c : Call) → inward e (made c s) ≡ false → After e (step h key c s) (step h key c t)
  not_inward s t k c i =
      elim k.either [
        | inl q ↦ record { reply = ap (λ (u : State). (step h key c u).reply) q; state = inl (ap (λ (u : State). (step h key c u).state) q) }
        | inr m ↦
            let free = inward_not s.board c i in
            let l = m.1 in
            let same : decision c s ≡ decision c t =
            asked_alike (ask 1 (eqb (length s.words) 4096) ∷ questions c s.board) (ask 1 (eqb (length t.words) 4096) ∷ questions c t.board)
            (refl, ap (λ (n : ℕ). eqb n 4096) l.sizes, λ _. questions_alike e s t is m.0 l (orderly s k.left) (orderly t k.right) c free) in
            step_is (λ o. After e o (step h key c t)) h key c s
            (λ z.
            step_is (λ o. After e (effect h key c s) o) h key c t
            (λ _. effect_after e s t is m.0 l (orderly s k.left) (orderly t k.right) h key c free (allowed c s z).0 (allowed c s z).1)
            (λ ne. absurd (ne (sym same ∙ z))))
            (λ ne.
            step_is (λ o. After e (record { reply = declining (decision c s); state = s }) o) h key c t
            (λ z. absurd (ne (same ∙ z)))
            (λ _. record { reply = ap (λ (n : ℕ). declining n) same; state = inr m }))
      ]

  same_call : (s t : State) → Close e s t → (c : Call) → Stepped e (made c s) (made c t)
  same_call s t k c =
      let same = same_inward s t (close_looks e s t k) c in
      elim (cases_Bool (inward e (made c s))) [
        | inl i ↦ both_inward s t k c c i (sym same ∙ i)
        | inr i ↦
            let a = not_inward s t k c i in
            let close : Close e (step h key c s).state (step h key c t).state =
            record { left = step_inv h key c s k.left; right = step_inv h key c t k.right; either = a.state } in
            record {
              sighted = same_sighting e (made c s) (made c t) same (λ _. a.reply) (close_seen e is (step h key c s).state (step h key c t).state close);
              close = close;
            }
      ]

  stepped : (s t : State) → Close e s t → (c d : Call) → (c ≡ d) ⊎ ((inward e (made c s) ≡ true) × (inward e (made d t) ≡ true)) → Stepped e (made c s) (made d t)
  stepped s t k c d how =
      elim how [
        | inl q ↦ subst (λ (x : Call). Stepped e (made c s) (made x t)) q (same_call s t k c)
        | inr p ↦ both_inward s t k c d p.0 p.1
      ]

  secret : (cs ds : List Call) (s t : State) → Close e s t → DifferOnlyInward e (run h key s cs) (run h key t ds) → sightings e (run h key s cs) ≡ sightings e (run h key t ds)
  secret [] [] s t k differ = refl
  secret [] (d ∷ ds) s t k differ = absurd differ
  secret (c ∷ cs) [] s t k differ = absurd differ
  secret (c ∷ cs) (d ∷ ds) s t k differ =
      let x = stepped s t k c d differ.0 in
      ap₂ (λ (y : Sighting) (l : List Sighting). y ∷ l) x.sighted (secret cs ds (step h key c s).state (step h key d t).state x.close differ.1)

  -- ---- hosts that choose

  unseen : (cs : List Call) (s : State) → Inv s → GoUnseen e (run h key s cs)
  unseen [] s i = tt
  unseen (c ∷ cs) s i =
      (λ w. close_seen e is (step h key c s).state s (inward_left s s (close_refl e s i) c w), unseen cs (step h key c s).state (step_inv h key c s i))

  -- one choice made in both runs
  chosen : (s t : State) → Close e s t → (c d : Call) (a : Choice) → AsChosen e a (made c s) → AsChosen e a (made d t) → Stepped e (made c s) (made d t)
  chosen s t k c d turn x y = both_inward s t k c d x y
  chosen s t k c d (picked p) x y = stepped s t k c d (inl (x ∙ sym y))

  counting : (choose : List Sighting → Choice) (cs ds : List Call) (s t : State) (past : List Sighting) → Close e s t → ChosenBy choose e past (run h key s cs)
      → ChosenBy choose e past (run h key t ds) → length (run h key s cs) ≡ length (run h key t ds) → sightings e (run h key s cs) ≡ sightings e (run h key t ds)
  counting choose [] [] s t past k x y n = refl
  counting choose [] (d ∷ ds) s t past k x y n = absurd (omega arith)
  counting choose (c ∷ cs) [] s t past k x y n = absurd (omega arith)
  counting choose (c ∷ cs) (d ∷ ds) s t past k x y n =
      let z = chosen s t k c d (choose past) x.0 y.0 in
      ap₂ (λ (y : Sighting) (l : List Sighting). y ∷ l) z.sighted
      (counting choose cs ds (step h key c s).state (step h key d t).state (sighting e (made c s) ∷ past) z.close x.1
      (subst (λ (w : Sighting). ChosenBy choose e (w ∷ past) (run h key (step h key d t).state ds)) (sym z.sighted) y.1) (omega arith))

  -- what is noticed only grows; where it does not, nothing was noticed
  noticed_not : (x : Event) (past : List Sighting) → inward e x ≡ false → noticed e x past ≡ sighting e x ∷ past
  noticed_not x past i = cond-false (inward e x) past (sighting e x ∷ past) i

  noticed_inward : (x : Event) (past : List Sighting) → inward e x ≡ true → noticed e x past ≡ past
  noticed_inward x past i = cond-true (inward e x) past (sighting e x ∷ past) i

  grows : (xs : List Event) (past : List Sighting) → length past ≤ length (all_noticed e past xs)
  grows [] past = omega arith
  grows (x ∷ xs) past =
      let k = grows xs (noticed e x past) in
      let n : length past ≤ length (noticed e x past) = cond_both (inward e x) past (sighting e x ∷ past) (λ (l : List Sighting). length past ≤ length l) (λ _. omega arith) (λ _. omega arith) in
      omega arith

  more : (x : Event) (xs : List Event) (past : List Sighting) → inward e x ≡ false → length past < length (all_noticed e past (x ∷ xs))
  more x xs past i =
      let k = grows xs (sighting e x ∷ past) in
      subst (λ (l : List Sighting). length past < length (all_noticed e l xs)) (sym (noticed_not x past i)) (omega arith)

  none_noticed : (xs : List Event) (past : List Sighting) → length past ≡ length (all_noticed e past xs) → past ≡ all_noticed e past xs
  none_noticed [] past n = refl
  none_noticed (x ∷ xs) past n =
      elim (cases_Bool (inward e x)) [
        | inl i ↦
            let q = noticed_inward x past i in
            subst (λ (l : List Sighting). length past ≡ length (all_noticed e l xs) → past ≡ all_noticed e l xs) (sym q) (none_noticed xs past) n
        | inr i ↦ absurd (let k = more x xs past i in omega arith)
      ]

  abbrev NoticeAlike : (List Sighting → Call) → List Event → List Event → List Sighting → Type 0
  NoticeAlike pick xs ys past = PickedBy pick e past xs → PickedBy pick e past ys → length (all_noticed e past xs) ≡ length (all_noticed e past ys) → all_noticed e past xs ≡ all_noticed e past ys

  -- an inward call in front of either run changes nothing
  skip_left : (pick : List Sighting → Call) (x : Event) (xs ys : List Event) (past : List Sighting) → inward e x ≡ true → NoticeAlike pick xs ys past → NoticeAlike pick (x ∷ xs) ys past
  skip_left pick x xs ys past i f a b n =
      subst (λ (l : List Sighting). PickedBy pick e l xs → length (all_noticed e l xs) ≡ length (all_noticed e past ys) → all_noticed e l xs ≡ all_noticed e past ys) (sym (noticed_inward x past i)) (λ p. f p b) a.1 n

  skip_right : (pick : List Sighting → Call) (xs : List Event) (y : Event) (ys : List Event) (past : List Sighting) → inward e y ≡ true → NoticeAlike pick xs ys past → NoticeAlike pick xs (y ∷ ys) past
  skip_right pick xs y ys past i f a b n =
      subst (λ (l : List Sighting). PickedBy pick e l ys → length (all_noticed e past xs) ≡ length (all_noticed e l ys) → all_noticed e past xs ≡ all_noticed e l ys) (sym (noticed_inward y past i)) (λ p. f a p) b.1 n

  -- both notice the same event
  notice_both : (pick : List Sighting → Call) (x y : Event) (xs ys : List Event) (past : List Sighting) → inward e x ≡ false → inward e y ≡ false → sighting e x ≡ sighting e y
      → NoticeAlike pick xs ys (sighting e x ∷ past) → NoticeAlike pick (x ∷ xs) (y ∷ ys) past
  notice_both pick x y xs ys past i j q f a b n =
      let l = noticed_not x past i in
      let m : noticed e y past ≡ sighting e x ∷ past = noticed_not y past j ∙ ap (λ (z : Sighting). z ∷ past) (sym q) in
      subst
      (λ (k : List Sighting). PickedBy pick e k xs → length (all_noticed e k xs) ≡ length (all_noticed e (noticed e y past) ys) → all_noticed e k xs ≡ all_noticed e (noticed e y past) ys) (sym l)
      (subst
      (λ (k : List Sighting). PickedBy pick e k ys → PickedBy pick e (sighting e x ∷ past) xs → length (all_noticed e (sighting e x ∷ past) xs) ≡ length (all_noticed e k ys) → all_noticed e (sighting e x ∷ past) xs ≡ all_noticed e k ys) (sym m)
      (λ v u. f u v) b.1)
      a.1 n

  -- a call that others notice in one run waits for the next one that they notice in the other
  catch_up : (pick : List Sighting → Call) (c : Call) (cs : List Call) (s : State) (past : List Sighting) → inward e (made c s) ≡ false
      → ((ds : List Call) (t : State) (past : List Sighting) → Close e (step h key c s).state t → NoticeAlike pick (run h key (step h key c s).state cs) (run h key t ds) past)
      → (ds : List Call) (t : State) → Close e s t → NoticeAlike pick (run h key s (c ∷ cs)) (run h key t ds) past
  catch_up pick c cs s past i later [] t k a b n = absurd (let m = more (made c s) (run h key (step h key c s).state cs) past i in omega arith)
  catch_up pick c cs s past i later (d ∷ ds) t k a b n =
      elim (cases_Bool (inward e (made d t))) [
        | inl j ↦ skip_right pick (run h key s (c ∷ cs)) (made d t) (run h key (step h key d t).state ds) past j
            (catch_up pick c cs s past i later ds (step h key d t).state (inward_right s t k d j)) a b n
        | inr j ↦
            let z = stepped s t k c d (inl (a.0 i ∙ sym (b.0 j))) in
            notice_both pick (made c s) (made d t) (run h key (step h key c s).state cs) (run h key (step h key d t).state ds) past i j z.sighted
            (later ds (step h key d t).state (sighting e (made c s) ∷ past) z.close) a b n
      ]

  picking : (pick : List Sighting → Call) (cs : List Call) (s : State) (ds : List Call) (t : State) (past : List Sighting) → Close e s t → NoticeAlike pick (run h key s cs) (run h key t ds) past
  picking pick [] s ds t past k = λ a b n. none_noticed (run h key t ds) past n
  picking pick (c ∷ cs) s ds t past k =
      elim (cases_Bool (inward e (made c s))) [
        | inl i ↦ skip_left pick (made c s) (run h key (step h key c s).state cs) (run h key t ds) past i
            (picking pick cs (step h key c s).state ds t past (inward_left s t k c i))
        | inr i ↦ catch_up pick c cs s past i (λ ds t past k. picking pick cs (step h key c s).state ds t past k) ds t k
      ]

start_close : (e : ℕ) (words : List ℕ) → Close e (start words) (start words)
start_close e words = close_refl e (start words) (start_inv words)

pub law_of_sight : (h : Meaning) → LawOfSight h
law_of_sight h key words cs ds e is differ = secret h key e is cs ds (start words) (start words) (start_close e words) differ

pub law_of_choosing_hosts : (h : Meaning) → LawOfChoosingHosts h
law_of_choosing_hosts h =
    record {
      unseen = λ key words cs e is. unseen h key e is cs (start words) (start_inv words);
      picking = λ key words cs ds e is pick. picking h key e is pick cs (start words) ds (start words) [] (start_close e words);
      counting = λ key words cs ds e is choose. counting h key e is choose cs ds (start words) (start words) [] (start_close e words);
    }
