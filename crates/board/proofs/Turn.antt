-- A running enclave's call as a function of its view: the number, the answer and the view after it. Only what it touches outside its range is handed in.
use Rattle.std.proofs.Common.{◌≡◌, ℕ, ◌%◌, ◌<◌, Bool, true, false, cond, not, ◌||◌, eqb, ltb, List, [], ◌∷◌, ◌++◌, length, get_or, set, sym, refl, ap, ◌∙◌, subst, ap₂, ⊎_elim, arith}
use lib.Bits.{bit_and}
use Rattle.std.proofs.lemmas.Bool.{cases_eq, cases_Bool, eqb-true, cond-true, cond-false, ne_eqb, false≢true, eq-eqb, both_ways, ltb-true, not-true, not-false, not_from_false}
use Rattle.digest.specs.Meaning.{Meaning, hmac}
use Rattle.board.specs.Answers.{Reply, declining}
use Rattle.board.specs.Effects.{Outcome, with_enclave, with_entry, switched, effect}
use Rattle.board.specs.Kinds.{Kind, destroying, entering, resuming, leaving, accessing, plain, kind_of}
use Rattle.board.specs.Lives.{PrivatePage, private_page}
use Rattle.board.specs.Measures.{page_words}
use Rattle.board.specs.Questions.{ask, first_no, host_runs, is_enclave_number, permits, rightful_owner, access_questions, questions, decision}
use Rattle.board.specs.State.{State, idle, entry_of, enclave_of, owner_of, covers, inside, page_of, place_of}
use Rattle.board.specs.Steps.{step}
use Rattle.board.specs.declared.Call.{Call}
use Rattle.board.specs.declared.Call.TheVariants.{Open, Add, Finish, Abandon, Destroy, Enter, Resume, Exit, Pause, Load, Store, Fetch, ReadRegister, WriteRegister, ReadMap, WriteMap, Attest}
use Rattle.board.specs.declared.Context.{Context}
use Rattle.board.specs.declared.Enclave.{Enclave}
use Rattle.board.specs.declared.Entry.{Entry}
use Rattle.board.specs.declared.Phase.{Phase}
use Rattle.board.specs.declared.Phase.TheVariants.{Ready, Paused}
use Rattle.board.proofs.Allowed.{Allowed, allowed, step_cases, from_one, up_to_eight}
use Rattle.board.proofs.Moves.{entry_new, entry_beside, enclave_new, stored_page, stored_beside, read_page}
use Rattle.board.proofs.Phases.{in_range}
use Rattle.board.proofs.Sound.{Shape, permission_of, Sound}
use Rattle.board.proofs.Subject.{mark}
use Rattle.board.proofs.View.{View, same_view, no_page, view, cond_same, same_page}

pub record Turn : Type 0 where
  pub reply : Reply
  pub view : View

abbrev pub said : ℕ → View → Turn
said n V = record { reply = declining n; view = V }

abbrev pub done : List ℕ → View → Turn
done ws V = record { reply = record { number = 0; words = ws }; view = V }

abbrev pub turn_of : ℕ → Outcome → Turn
turn_of e o = record { reply = o.reply; view = view e o.state }

abbrev pub spans : View → ℕ → Bool
spans V v = covers V.first V.count v

abbrev pub allows : ℕ → ℕ → Bool
allows right n = not (eqb (bit_and n right) 0)

abbrev pub re_phased : View → Phase → Context → View
re_phased V p x = record { first = V.first; count = V.count; entrypoint = V.entrypoint; phase = p; measurement = V.measurement; context = x; page = V.page }

abbrev pub re_paged : View → (PrivatePage → PrivatePage) → ℕ → Context → View
re_paged V f v x =
    record { first = V.first; count = V.count; entrypoint = V.entrypoint; phase = V.phase; measurement = V.measurement; context = x; page = λ w. cond (eqb w v) (f (V.page w)) (V.page w) }

abbrev pub mark_page : PrivatePage → PrivatePage
mark_page t = record { permission = t.permission; accessed = true; words = t.words }

abbrev pub write_page : ℕ → ℕ → PrivatePage → PrivatePage
write_page k w t = record { permission = t.permission; accessed = true; words = set t.words k w }

-- a load or a store outside the range
abbrev pub outside : Kind → View → Bool
outside (destroying e) V = false
outside (entering e) V = false
outside (resuming e) V = false
outside leaving V = false
outside (accessing a) V = not (spans V (page_of a))
outside plain V = false

abbrev pub number : Call → View → ℕ
number (Open e first count entry) V = 2
number (Add e v f permission) V = 2
number (Finish e) V = 2
number (Abandon e) V = 2
number (Destroy e) V = 2
number (Enter e) V = 2
number (Resume e) V = 2
number Exit V = 0
number Pause V = 0
number (Load a) V = cond (ltb a 4096) (cond (allows 1 (V.page (page_of a)).permission) 0 6) 3
number (Store a w) V = cond (ltb a 4096) (cond (allows 2 (V.page (page_of a)).permission) 0 6) 3
number (Fetch a) V = cond (ltb a 4096) (cond (spans V (page_of a)) (cond (allows 4 (V.page (page_of a)).permission) 0 6) 5) 3
number (ReadRegister n) V = cond (ltb n 8) 0 3
number (WriteRegister n w) V = cond (ltb n 8) 0 3
number (ReadMap p v) V = 2
number (WriteMap p v f permission) V = 2
number (Attest w) V = 0

abbrev pub result : Meaning → List ℕ → Call → View → Turn
result h key (Open e first count entry) V = said 2 V
result h key (Add e v f permission) V = said 2 V
result h key (Finish e) V = said 2 V
result h key (Abandon e) V = said 2 V
result h key (Destroy e) V = said 2 V
result h key (Enter e) V = said 2 V
result h key (Resume e) V = said 2 V
result h key Exit V = done [] (re_phased V Ready idle)
result h key Pause V = done [] (re_phased V Paused V.context)
result h key (Load a) V = done (get_or (V.page (page_of a)).words (a % 64) 0 ∷ []) (re_paged V mark_page (page_of a) V.context)
result h key (Store a w) V = done [] (re_paged V (write_page (a % 64) w) (page_of a) V.context)
result h key (Fetch a) V = done (get_or (V.page (page_of a)).words (a % 64) 0 ∷ []) (re_paged V mark_page (page_of a) (record { pc = a; registers = V.context.registers }))
result h key (ReadRegister n) V = done (get_or V.context.registers n 0 ∷ []) V
result h key (WriteRegister n w) V = done [] (re_phased V V.phase (record { pc = V.context.pc; registers = set V.context.registers n w }))
result h key (ReadMap p v) V = said 2 V
result h key (WriteMap p v f permission) V = said 2 V
result h key (Attest w) V = done (V.measurement ++ hmac h key (V.measurement ++ (w ∷ []))) V

abbrev pub turn : Meaning → List ℕ → Call → View → Reply → Turn
turn h key c V out = cond (outside (kind_of c) V) (record { reply = out; view = V }) (cond (eqb (number c V) 0) (result h key c V) (said (number c V) V))

-- ---- a new record with the range as it was

pub view_phased : (s : State) (i : Shape s.board) (e : ℕ) → is_enclave_number e ≡ true → (r : Enclave) (p : ℕ) (x y : Context) → r.first ≡ (enclave_of s.board e).first → r.count ≡ (enclave_of s.board e).count → r.entrypoint ≡ (enclave_of s.board e).entrypoint → r.measurement ≡ (enclave_of s.board e).measurement
    → view e (record { board = switched (with_enclave s.board e r) p x y; words = s.words }) ≡ re_phased (view e s) r.phase (cond (eqb p e) x r.saved)
view_phased s i e g r p x y f n a m =
    let z : enclave_of (switched (with_enclave s.board e r) p x y) e ≡ r = enclave_new s.board e r (from_one e g) (up_to_eight e g) i.enclaves in
    same_view _ _
    (ap (λ (t : Enclave). t.first) z ∙ f) (ap (λ (t : Enclave). t.count) z ∙ n) (ap (λ (t : Enclave). t.entrypoint) z ∙ a) (ap (λ (t : Enclave). t.phase) z) (ap (λ (t : Enclave). t.measurement) z ∙ m)
    (ap (λ (t : Enclave). cond (eqb p e) x t.saved) z)
    (λ v. ap (λ (b : Bool). cond b (private_page s.words (entry_of s.board e v)) no_page) (ap (λ (t : Enclave). in_range t v) z ∙ ap₂ (λ (a o : ℕ). covers a o v) f n))

-- ---- the state of a running enclave

module _ (h : Meaning) (key : List ℕ) (s : State) (i : Shape s.board) (g : is_enclave_number s.board.running ≡ true) (u : Sound s.board.running s.board) (whole : length s.words ≡ 4096) where
  guest : host_runs s.board ≡ false
  guest = ne_eqb s.board.running 0 (λ q. (let l = from_one s.board.running g in omega arith))

  me : eqb s.board.running s.board.running ≡ true
  me = eq-eqb s.board.running s.board.running refl

  live_context : (view s.board.running s).context ≡ s.board.live
  live_context = cond-true (eqb s.board.running s.board.running) s.board.live (enclave_of s.board s.board.running).saved me

  asked : (c : Call) (n : ℕ) → first_no (questions c s.board) ≡ n → decision c s ≡ n
  asked c n q = cond-true (eqb (length s.words) 4096) (first_no (questions c s.board)) 1 (eq-eqb (length s.words) 4096 whole) ∙ q

  not_guest : first_no (ask 2 (not (host_runs s.board)) ∷ []) ≡ 0
  not_guest = cond-true (not (host_runs s.board)) 0 2 (not_from_false (host_runs s.board) guest)

  own_permission : (v : ℕ) → inside s.board s.board.running v ≡ true → (view s.board.running s).page v ≡ private_page s.words (entry_of s.board s.board.running v)
  own_permission v p = cond-true (inside s.board s.board.running v) (private_page s.words (entry_of s.board s.board.running v)) no_page p

  permitted : (right v : ℕ) → permits right (entry_of s.board s.board.running v) ≡ true → permission_of s.board s.board.running v ≡ 0 → ⊥
  permitted right v p q = false≢true (subst (λ (n : ℕ). not (eqb (bit_and n right) 0) ≡ true) q p)

  reach : (a : ℕ) → inside s.board s.board.running (page_of a) ≡ true → rightful_owner s.board a ≡ s.board.running
  reach a p = cond-true (inside s.board s.board.running (page_of a)) s.board.running 0 p

  access : (right a : ℕ) → inside s.board s.board.running (page_of a) ≡ true
      → first_no (access_questions s.board right a) ≡ cond (allows right ((view s.board.running s).page (page_of a)).permission) 0 6
  access right a p = go (permits right (entry_of s.board s.board.running (page_of a))) refl ∙ ap (λ (t : PrivatePage). cond (allows right t.permission) 0 6) (sym (own_permission (page_of a) p))
    where
      go : (t : Bool) → permits right (entry_of s.board s.board.running (page_of a)) ≡ t → ◌≡◌ {A = ℕ} (cond t (cond (eqb (owner_of s.board (entry_of s.board s.board.running (page_of a)).frame) (rightful_owner s.board a)) 0 8) 6) (cond t 0 6)
      go true q = cond-true (eqb (owner_of s.board (entry_of s.board s.board.running (page_of a)).frame) (rightful_owner s.board a)) 0 8 (eq-eqb _ _ (u.owned (page_of a) p (permitted right (page_of a) q) ∙ sym (reach a p)))
      go false q = refl

  number_is : (c : Call) → outside (kind_of c) (view s.board.running s) ≡ false → decision c s ≡ number c (view s.board.running s)
  number_is (Open e first count entry) o = asked (Open e first count entry) 2 (cond-false (host_runs s.board) _ 2 guest)
  number_is (Add e v f permission) o = asked (Add e v f permission) 2 (cond-false (host_runs s.board) _ 2 guest)
  number_is (Finish e) o = asked (Finish e) 2 (cond-false (host_runs s.board) _ 2 guest)
  number_is (Abandon e) o = asked (Abandon e) 2 (cond-false (host_runs s.board) _ 2 guest)
  number_is (Destroy e) o = asked (Destroy e) 2 (cond-false (host_runs s.board) _ 2 guest)
  number_is (Enter e) o = asked (Enter e) 2 (cond-false (host_runs s.board) _ 2 guest)
  number_is (Resume e) o = asked (Resume e) 2 (cond-false (host_runs s.board) _ 2 guest)
  number_is Exit o = asked Exit 0 not_guest
  number_is Pause o = asked Pause 0 not_guest
  number_is (Load a) o = asked (Load a) _ (ap (λ (n : ℕ). cond (ltb a 4096) n 3) (access 1 a (not-false _ o)))
  number_is (Store a w) o = asked (Store a w) _ (ap (λ (n : ℕ). cond (ltb a 4096) n 3) (access 2 a (not-false _ o)))
  number_is (Fetch a) o = asked (Fetch a) _ (ap (λ (n : ℕ). cond (ltb a 4096) n 3) (ap (λ (t : Bool). cond (t || inside s.board s.board.running (page_of a)) (first_no (access_questions s.board 4 a)) 5) guest ∙ cond_same (inside s.board s.board.running (page_of a)) (inside s.board s.board.running (page_of a)) (first_no (access_questions s.board 4 a)) _ 5 refl (access 4 a)))
  number_is (ReadRegister n) o = asked (ReadRegister n) _ refl
  number_is (WriteRegister n w) o = asked (WriteRegister n w) _ refl
  number_is (ReadMap p v) o = asked (ReadMap p v) 2 (cond-false (host_runs s.board) _ 2 guest)
  number_is (WriteMap p v f permission) o = asked (WriteMap p v f permission) 2 (cond-false (host_runs s.board) _ 2 guest)
  number_is (Attest w) o = asked (Attest w) 0 not_guest

  -- ---- what an access leaves of the view

  -- inside: the page is as f makes it, and the others stay
  accessed : (ws : List ℕ) (f : PrivatePage → PrivatePage) (v : ℕ) (x : Context) → v < 64 → inside s.board s.board.running v ≡ true
      → f (private_page s.words (entry_of s.board s.board.running v)) ≡ private_page ws (mark (entry_of s.board s.board.running v))
      → ((w : ℕ) → inside s.board s.board.running w ≡ true → (w ≡ v → ⊥) → private_page ws (entry_of s.board s.board.running w) ≡ private_page s.words (entry_of s.board s.board.running w))
      → view s.board.running (record { board = switched (with_entry s.board s.board.running v (mark (entry_of s.board s.board.running v))) s.board.running x s.board.host; words = ws })
      ≡ re_paged (view s.board.running s) f v x
  accessed ws f v x b p new old =
      same_view _ _ refl refl refl refl refl (cond-true (eqb s.board.running s.board.running) x _ me) pages
    where
      pages : (w : ℕ) → cond (inside s.board s.board.running w) (private_page ws (entry_of (with_entry s.board s.board.running v (mark (entry_of s.board s.board.running v))) s.board.running w)) no_page
          ≡ cond (eqb w v) (f ((view s.board.running s).page w)) ((view s.board.running s).page w)
      pages w =
          ⊎_elim
          (λ (q : w ≡ v).
          subst (λ (w : ℕ). cond (inside s.board s.board.running w) (private_page ws (entry_of (with_entry s.board s.board.running v (mark (entry_of s.board s.board.running v))) s.board.running w)) no_page ≡ cond (eqb w v) (f ((view s.board.running s).page w)) ((view s.board.running s).page w)) (sym q)
          (cond-true (inside s.board s.board.running v) _ no_page p
          ∙ ap (λ (t : Entry). private_page ws t) (entry_new s.board s.board.running v _ (let o = i.maps in let k = i.running in omega arith) (let o = i.map s.board.running in omega arith))
          ∙ sym new ∙ ap f (sym (own_permission v p)) ∙ sym (cond-true (eqb v v) (f ((view s.board.running s).page v)) ((view s.board.running s).page v) (eq-eqb v v refl))))
          (λ (n : w ≡ v → ⊥).
          cond_same (inside s.board s.board.running w) (inside s.board s.board.running w) _ (private_page s.words (entry_of s.board s.board.running w)) no_page refl
          (λ h. ap (λ (t : Entry). private_page ws t) (entry_beside s.board s.board.running v w _ (let o = i.maps in let k = i.running in omega arith) n) ∙ old w h n)
          ∙ sym (cond-false (eqb w v) (f ((view s.board.running s).page w)) ((view s.board.running s).page w) (ne_eqb w v n)))
          (cases_eq w v)

  -- outside: the view stays
  passed : (ws : List ℕ) (v : ℕ) → inside s.board s.board.running v ≡ false
      → ((w : ℕ) → inside s.board s.board.running w ≡ true → private_page ws (entry_of s.board s.board.running w) ≡ private_page s.words (entry_of s.board s.board.running w))
      → view s.board.running (record { board = with_entry s.board s.board.running v (mark (entry_of s.board s.board.running v)); words = ws }) ≡ view s.board.running s
  passed ws v p old =
      same_view _ _ refl refl refl refl refl refl (λ w.
      cond_same (inside s.board s.board.running w) (inside s.board s.board.running w) _ _ no_page refl
      (λ h. ap (λ (t : Entry). private_page ws t) (entry_beside s.board s.board.running v w _ (let o = i.maps in let k = i.running in omega arith) (λ q. both_ways (inside s.board s.board.running w) (ap (λ (z : ℕ). inside s.board s.board.running z) q ∙ p) h)) ∙ old w h))

  -- ---- each accepted call

  turned : (ws : List ℕ) (V W : View) → V ≡ W → done ws V ≡ done ws W
  turned ws V W q = ap (λ (X : View). done ws X) q

  not_asleep : eqb 0 s.board.running ≡ false
  not_asleep = ne_eqb 0 s.board.running (λ q. (let l = from_one s.board.running g in omega arith))

  hosted : {A : Type 0} → host_runs s.board ≡ true → A
  hosted q = absurd (both_ways (host_runs s.board) guest q)

  word_at : (a : ℕ) → inside s.board s.board.running (page_of a) ≡ true → (permission_of s.board s.board.running (page_of a) ≡ 0 → ⊥)
      → get_or s.words (place_of s.board a) 0 ≡ get_or ((view s.board.running s).page (page_of a)).words (a % 64) 0
  word_at a p n =
      read_page s.words (entry_of s.board s.board.running (page_of a)).frame (a % 64) (omega arith)
      ∙ sym (ap (λ (l : List ℕ). get_or l (a % 64) 0) (ap (λ (t : PrivatePage). t.words) (own_permission (page_of a) p) ∙ cond-false (eqb (permission_of s.board s.board.running (page_of a)) 0) [] _ (ne_eqb _ 0 n)))

  page_below : (a : ℕ) → ltb a 4096 ≡ true → page_of a < 64
  page_below a q = let l = ltb-true a 4096 q in omega arith

  marked_turn : (a right : ℕ) (x : Context) → inside s.board s.board.running (page_of a) ≡ true → permits right (entry_of s.board s.board.running (page_of a)) ≡ true → ltb a 4096 ≡ true
      → ◌≡◌ {A = Turn} (done (get_or s.words (place_of s.board a) 0 ∷ []) (view s.board.running (record { board = switched (with_entry s.board s.board.running (page_of a) (mark (entry_of s.board s.board.running (page_of a)))) s.board.running x s.board.host; words = s.words })))
      (done (get_or ((view s.board.running s).page (page_of a)).words (a % 64) 0 ∷ []) (re_paged (view s.board.running s) mark_page (page_of a) x))
  marked_turn a right x p q l = ap₂ (λ (n : ℕ) (V : View). done (n ∷ []) V) (word_at a p (permitted right (page_of a) q)) (accessed s.words mark_page (page_of a) x (page_below a l) p refl (λ w h n. refl))

  stored_new : (a w : ℕ) → write_page (a % 64) w (private_page s.words (entry_of s.board s.board.running (page_of a))) ≡ private_page (set s.words (place_of s.board a) w) (mark (entry_of s.board s.board.running (page_of a)))
  stored_new a w = ap (λ (l : List ℕ). record { permission = permission_of s.board s.board.running (page_of a); accessed = true; words = l })
      (go (eqb (permission_of s.board s.board.running (page_of a)) 0))
    where
      go : (t : Bool) → set (cond t [] (page_words s.words (entry_of s.board s.board.running (page_of a)).frame)) (a % 64) w ≡ cond t [] (page_words (set s.words (place_of s.board a) w) (entry_of s.board s.board.running (page_of a)).frame)
      go true = refl
      go false = sym (stored_page s.words (entry_of s.board s.board.running (page_of a)).frame (a % 64) w (omega arith))

  result_is : (c : Call) → Allowed c s → outside (kind_of c) (view s.board.running s) ≡ false → turn_of s.board.running (effect h key c s) ≡ result h key c (view s.board.running s)
  result_is (Open e first count entry) y o = hosted y.1.0
  result_is (Add e v f permission) y o = hosted y.1.0
  result_is (Finish e) y o = hosted y.1.0
  result_is (Abandon e) y o = hosted y.1.0
  result_is (Destroy e) y o = hosted y.1.0
  result_is (Enter e) y o = hosted y.1.0
  result_is (Resume e) y o = hosted y.1.0
  result_is Exit y o =
      let d = u.runs refl in
      turned [] _ _ (view_phased s i s.board.running g _ 0 _ idle refl refl refl refl
      ∙ ap (λ (x : Context). re_phased (view s.board.running s) Ready x) (cond-false (eqb 0 s.board.running) _ _ not_asleep ∙ u.rest (λ q. omega arith)))
  result_is Pause y o =
      turned [] _ _ (view_phased s i s.board.running g _ 0 _ idle refl refl refl refl
      ∙ ap (λ (x : Context). re_phased (view s.board.running s) Paused x) (cond-false (eqb 0 s.board.running) _ _ not_asleep ∙ sym live_context))
  result_is (Load a) y o = marked_turn a 1 s.board.live (not-false _ o) y.1.1.0 y.1.0 ∙ ap (λ (x : Context). done (get_or ((view s.board.running s).page (page_of a)).words (a % 64) 0 ∷ []) (re_paged (view s.board.running s) mark_page (page_of a) x)) (sym live_context)
  result_is (Store a w) y o =
      turned [] _ _ (accessed (set s.words (place_of s.board a) w) (write_page (a % 64) w) (page_of a) s.board.live (page_below a y.1.0) (not-false _ o) (stored_new a w)
      (λ v h n. same_page _ s.words (entry_of s.board s.board.running v) (entry_of s.board s.board.running v) refl refl (λ k. stored_beside s.words (entry_of s.board s.board.running (page_of a)).frame (entry_of s.board s.board.running v).frame (a % 64) w (omega arith)
      (λ q. n (u.apart v (page_of a) h (not-false _ o) k (permitted 2 (page_of a) y.1.1.0) q))))
      ∙ ap (λ (x : Context). re_paged (view s.board.running s) (write_page (a % 64) w) (page_of a) x) (sym live_context))
  result_is (Fetch a) y o =
      marked_turn a 4 (record { pc = a; registers = s.board.live.registers }) (sym (ap (λ (t : Bool). t || inside s.board s.board.running (page_of a)) guest) ∙ y.1.1.0) y.1.1.1.0 y.1.0
      ∙ ap (λ (x : Context). done (get_or ((view s.board.running s).page (page_of a)).words (a % 64) 0 ∷ []) (re_paged (view s.board.running s) mark_page (page_of a) (record { pc = a; registers = x.registers }))) (sym live_context)
  result_is (ReadRegister n) y o = ap (λ (x : Context). done (get_or x.registers n 0 ∷ []) (view s.board.running s)) (sym live_context)
  result_is (WriteRegister n w) y o = turned [] _ _ (same_view _ _ refl refl refl refl refl (cond-true (eqb s.board.running s.board.running) _ _ me ∙ ap (λ (x : Context). record { pc = x.pc; registers = set x.registers n w }) (sym live_context)) (λ v. refl))
  result_is (ReadMap p v) y o = hosted y.1.0
  result_is (WriteMap p v f permission) y o = hosted y.1.0
  result_is (Attest w) y o = refl

  outside_is : (c : Call) → outside (kind_of c) (view s.board.running s) ≡ true → Allowed c s → view s.board.running (effect h key c s).state ≡ view s.board.running s
  outside_is (Open e first count entry) o y = absurd (false≢true o)
  outside_is (Add e v f permission) o y = absurd (false≢true o)
  outside_is (Finish e) o y = absurd (false≢true o)
  outside_is (Abandon e) o y = absurd (false≢true o)
  outside_is (Destroy e) o y = absurd (false≢true o)
  outside_is (Enter e) o y = absurd (false≢true o)
  outside_is (Resume e) o y = absurd (false≢true o)
  outside_is Exit o y = absurd (false≢true o)
  outside_is Pause o y = absurd (false≢true o)
  outside_is (Load a) o y = passed s.words (page_of a) (not-true _ o) (λ w h. refl)
  outside_is (Store a w) o y =
      passed (set s.words (place_of s.board a) w) (page_of a) (not-true _ o)
      (λ v h. same_page _ s.words (entry_of s.board s.board.running v) (entry_of s.board s.board.running v) refl refl (λ k. stored_beside s.words (entry_of s.board s.board.running (page_of a)).frame (entry_of s.board s.board.running v).frame (a % 64) w (omega arith)
      (λ q. (
      let x : owner_of s.board (entry_of s.board s.board.running v).frame ≡ owner_of s.board (entry_of s.board s.board.running (page_of a)).frame = ap (λ (n : ℕ). owner_of s.board n) q in
      let z : owner_of s.board (entry_of s.board s.board.running v).frame ≡ s.board.running = u.owned v h k in
      let r : rightful_owner s.board a ≡ 0 = cond-false (inside s.board s.board.running (page_of a)) s.board.running 0 (not-true _ o) in
      let t : owner_of s.board (entry_of s.board s.board.running (page_of a)).frame ≡ rightful_owner s.board a = eqb-true _ _ y.1.1.1.0 in
      let l = from_one s.board.running g in
      omega arith))))
  outside_is (Fetch a) o y = absurd (false≢true o)
  outside_is (ReadRegister n) o y = absurd (false≢true o)
  outside_is (WriteRegister n w) o y = absurd (false≢true o)
  outside_is (ReadMap p v) o y = absurd (false≢true o)
  outside_is (WriteMap p v f permission) o y = absurd (false≢true o)
  outside_is (Attest w) o y = absurd (false≢true o)

  -- ---- any call of the running enclave

  pub running_turn : (c : Call) → turn_of s.board.running (step h key c s) ≡ turn h key c (view s.board.running s) (step h key c s).reply
  running_turn c = ⊎_elim
      (λ (o : outside (kind_of c) (view s.board.running s) ≡ true).
      ap (λ (X : View). record { reply = (step h key c s).reply; view = X })
      (step_cases h key c s (λ (t : Outcome). view s.board.running t.state ≡ view s.board.running s) (λ y. outside_is c o y) (λ n. refl))
      ∙ sym (cond-true (outside (kind_of c) (view s.board.running s)) _ _ o))
      (λ (o : outside (kind_of c) (view s.board.running s) ≡ false).
      go o (eqb (decision c s) 0) refl
      ∙ ap (λ (n : ℕ). cond (eqb n 0) (result h key c (view s.board.running s)) (said n (view s.board.running s))) (number_is c o)
      ∙ sym (cond-false (outside (kind_of c) (view s.board.running s)) _ _ o))
      (cases_Bool (outside (kind_of c) (view s.board.running s)))
    where
      go : outside (kind_of c) (view s.board.running s) ≡ false → (t : Bool) → eqb (decision c s) 0 ≡ t
          → turn_of s.board.running (cond t (effect h key c s) (record { reply = declining (decision c s); state = s })) ≡ cond t (result h key c (view s.board.running s)) (said (decision c s) (view s.board.running s))
      go o true q = result_is c (allowed c s (eqb-true (decision c s) 0 q)) o
      go o false q = refl
