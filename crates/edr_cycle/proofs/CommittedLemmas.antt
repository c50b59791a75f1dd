-- Commands that are committed after others.
use Rattle.std.proofs.Common.{◌≡◌, ◌≤◌, ◌+◌, ◌-◌, ◌∙◌, ℕ, Bool, Option, Some, List, [], ◌∷◌, ◌++◌, length, take, refl, sym, ap, subst, inl, arith, append_assoc, append-nil, Result, Ok, Err}
use Rattle.std.specs.Prelude.{IsErr}
use Rattle.std.proofs.lemmas.Bool.{false≢true}
use Rattle.std.specs.Prelude.{slice_get}
use Rattle.std.proofs.lemmas.Option.{slice_get_within}
use Rattle.std.proofs.lemmas.List.{length-append, length-map, map-append, take-append-le}
use Rattle.std.proofs.lemmas.List.Sums.{fold-append, sum_by-append}
use Rattle.std.proofs.Math.Seq.{take-append-add}
use Rattle.edr_definitions.specs.Commands.{Issue}
use Rattle.edr_device.specs.Device.{Elapses, IsQuiet, MayLeave}
use Rattle.edr_device.specs.Pieces.{Makes}
use Rattle.edr_device.proofs.LendingLemmas.{makes_again, makes_first, none_made}
use Rattle.edr_device.proofs.SettlingLemmas.{elapses_again, elapses_more}
use Rattle.edr_record.specs.declared.Command.{Command}
use Rattle.edr_image.specs.declared.Ack.{Ack}
use Rattle.edr_image.specs.Calls.{all_calls, calls_of}
use Rattle.edr_image.specs.Image.{View}
use Rattle.edr_cycle.specs.CycleLogged.{CycleLogged}
use Rattle.edr_image.specs.Steps.{BankStep, State, after, held_after, reply_to, state_after}
use Rattle.edr_run.specs.Cycle.{ack_of}
use Rattle.edr_banks.specs.Opened.{OpenedBanks, state_of}
use Rattle.edr_banks.specs.Applying.{ended_after, opened_after}
use Rattle.edr_cycle.specs.Commits.{Commits, IsAfterFirst, IsLeftBy, IsFoundWith, StopsAt, SaysAfter, acks_from, commands_from, first_steps, replies_from, steps_from}
use Rattle.edr_cycle.specs.Past.{KeepsPast}
use Rattle.edr_cycle.proofs.AnsweredLemmas.{map_err, map_ok}
use Rattle.edr_cycle.proofs.PastLemmas.{past_again, past_self}
use Rattle.edr_cycle.proofs.ListLemmas.{acks_from-append, calls-append, first_steps-first, first_steps-later, length-acks_from, length-replies_from, replies_from-append, steps_from-append}
use Rattle.edr_run.proofs.ReplyLemmas.{after-append, get_first, get_later}

-- ---- what is passed and what is cut

passed_first : (a b : List BankStep) (v : View) (image : List ℕ) → IsAfterFirst a v image → IsAfterFirst (a ++ b) v image
passed_first a b v image h =
    let within = h.within in
    let size = length-append a b in record {
      p = h.p;
      within = omega (arith, within, size);
      says = h.says ∙ ap (λ steps. Some (record v { store = after v.store steps })) (sym (take-append-le h.p a b within));
    }

-- the view after steps
abbrev pub view_after : View → List BankStep → View
view_after v steps = record v { store = after v.store steps }

says-append : (a b : List BankStep) (v : View) (image : List ℕ) → SaysAfter (view_after v a) b image → SaysAfter v (a ++ b) image
says-append a b v image h = h ∙ ap (λ store. Some (record v { store = store })) (after-append v.store a b)

passed_later : (a b : List BankStep) (v : View) (image : List ℕ) → IsAfterFirst b (view_after v a) image → IsAfterFirst (a ++ b) v image
passed_later a b v image h =
    let within = h.within in
    let size = length-append a b in record {
      p = length a + h.p;
      within = omega (arith, within, size);
      says = says-append a (take h.p b) v image h.says ∙ ap (λ steps. Some (record v { store = after v.store steps })) (sym (take-append-add a b h.p));
    }

-- ---- where a command fails

opened-append : (b : OpenedBanks) (a more : List BankStep) → opened_after (opened_after b a) more ≡ opened_after b (a ++ more)
opened-append b a more = rw (after-append b.store a more, ← fold-append held_after b.held a more) refl

module _ (b b'' : OpenedBanks) (xs ys : List Issue) where
  abbrev s : State
  s = state_of b

  abbrev then : State
  then = state_after s (steps_from s xs)

  stops_first : (before now : ℕ) (content content' : Option (List ℕ)) (settled settled' : ℕ → Bool) (l l' : CycleLogged) → StopsAt b b'' xs before now content content' settled settled' l l' → StopsAt b b'' (xs ++ ys) before now content content' settled settled' l l'
  stops_first before now content content' settled settled' l l' h =
      let within = slice_get_within (replies_from s xs) h.j h.fails.reply h.fails.at in
      let long = length-replies_from s xs in
      let below : h.j ≤ length xs = omega (arith, within, long) in
      let same = first_steps-first s xs ys h.j below in
      let calls = ap all_calls same in
      let past = h.fails.past in
      let high = h.fails.within in record {
        j = h.j;
        fails = record {
          reply = h.fails.reply;
          at = subst (λ rs. slice_get rs h.j ≡ Some h.fails.reply) (sym (replies_from-append s xs ys)) (get_first (replies_from s xs) (replies_from then ys) h.j h.fails.reply h.fails.at);
          past = omega (arith, past, calls);
          within = omega (arith, high, calls);
        };
        made = λ room. let made = h.made room in omega (arith, made, calls);
        banks_are = h.banks_are ∙ ap (λ steps. ended_after (opened_after b steps)) (sym same);
        log_is = h.log_is ∙ ap (λ ks. l.acks ++ ks) (sym (take-append-le h.j (acks_from s xs) (acks_from then ys) (let n = length-acks_from s xs in omega (arith, n, below))) ∙ ap (take h.j) (sym (acks_from-append s xs ys)));
        commands_are = h.commands_are ∙ ap (λ ks. l.commands ++ ks) (sym (take-append-le h.j (commands_from xs) (commands_from ys) (let n = length-map xs (λ (i : Issue). i.command) in omega (arith, n, below))) ∙ ap (take h.j) (sym (map-append (λ (i : Issue). i.command) xs ys)));
        cut = λ bytes image v ready left.
            let c = h.cut bytes image v ready left in record {
              part = c.part;
              left = subst (λ steps. IsLeftBy (now - before - all_calls steps) h.fails.reply.steps c.part) (sym same) c.left;
              says = subst (λ steps. SaysAfter v (steps ++ c.part) image) (sym same) c.says;
            };
      }

  stops_later : (before mid now : ℕ) (content middle content' : Option (List ℕ)) (settled settled' settled'' : ℕ → Bool) (l l' l'' : CycleLogged) → mid ≡ before + all_calls (steps_from s xs) → mid ≤ now → l'.acks ≡ l.acks ++ acks_from s xs → l'.commands ≡ l.commands ++ commands_from xs
      → ((bytes : List ℕ) (v : View) → IsFoundWith b.store content settled bytes v → (after_it : List ℕ) × IsFoundWith then.store middle settled' after_it (view_after v (steps_from s xs)))
      → StopsAt (opened_after b (steps_from s xs)) b'' ys mid now middle content' settled' settled'' l' l'' → StopsAt b b'' (xs ++ ys) before now content content' settled settled'' l l''
  stops_later before mid now content middle content' settled settled' settled'' l l' l'' risen later acks commands ready h =
      let a = steps_from s xs in
      let steps = first_steps-later s xs ys h.j in
      let calls : all_calls (first_steps s (xs ++ ys) (length xs + h.j)) ≡ all_calls a + all_calls (first_steps then ys h.j) = ap all_calls steps ∙ sum_by-append calls_of a (first_steps then ys h.j) in
      let past = h.fails.past in
      let high = h.fails.within in
      let long = length-replies_from s xs in
      let rest : now - before - all_calls (first_steps s (xs ++ ys) (length xs + h.j)) ≡ now - mid - all_calls (first_steps then ys h.j) = omega (arith, calls, risen, later) in record {
        j = length xs + h.j;
        fails = record {
          reply = h.fails.reply;
          at = subst (λ rs. slice_get rs (length xs + h.j) ≡ Some h.fails.reply) (sym (replies_from-append s xs ys))
              (subst (λ n. slice_get (replies_from s xs ++ replies_from then ys) (n + h.j) ≡ Some h.fails.reply) long (get_later (replies_from s xs) (replies_from then ys) h.j h.fails.reply h.fails.at));
          past = omega (arith, past, calls, risen, later);
          within = omega (arith, high, calls, risen, later);
        };
        made = λ room. let made = h.made room in omega (arith, made, calls, risen, later);
        banks_are = h.banks_are ∙ ap ended_after (opened-append b a (first_steps then ys h.j) ∙ ap (opened_after b) (sym steps));
        log_is = h.log_is ∙ ap (λ ks. ks ++ take h.j (acks_from then ys)) acks ∙ append_assoc l.acks (acks_from s xs) (take h.j (acks_from then ys))
            ∙ ap (λ ks. l.acks ++ ks) (sym (ap (take (length xs + h.j)) (acks_from-append s xs ys) ∙ ap (λ n. take (n + h.j) (acks_from s xs ++ acks_from then ys)) (sym (length-acks_from s xs)) ∙ take-append-add (acks_from s xs) (acks_from then ys) h.j));
        commands_are = h.commands_are ∙ ap (λ ks. ks ++ take h.j (commands_from ys)) commands ∙ append_assoc l.commands (commands_from xs) (take h.j (commands_from ys))
            ∙ ap (λ ks. l.commands ++ ks) (sym (ap (take (length xs + h.j)) (map-append (λ (i : Issue). i.command) xs ys) ∙ ap (λ n. take (n + h.j) (commands_from xs ++ commands_from ys)) (sym (length-map xs (λ (i : Issue). i.command))) ∙ take-append-add (commands_from xs) (commands_from ys) h.j));
        cut = λ bytes image v is left.
            let next = ready bytes v is in
            let c = h.cut next.0 image (view_after v a) next.1 left in record {
              part = c.part;
              left = subst (λ n. IsLeftBy n h.fails.reply.steps c.part) (sym rest) c.left;
              says = says-append a (first_steps then ys h.j ++ c.part) v image c.says ∙ ap (λ more. Some (record v { store = after v.store more })) (sym (append_assoc a (first_steps then ys h.j) c.part) ∙ ap (λ first. first ++ c.part) (sym steps));
            };
      }

-- ---- commits

module _ {D : Type 0} (content : D → Option (List ℕ)) (settled : D → ℕ → Bool) (since : D → ℕ → List ℕ → Type 0) (clock good : D → ℕ) where
  abbrev These : {T E : Type 0} → List Issue → Result T E → OpenedBanks → OpenedBanks → CycleLogged → CycleLogged → D → D → Type 0
  These xs r b b' l l' d d' = Commits content settled since clock good xs r b b' l l' d d'

  -- nothing is committed
  pub commits_none : {T E : Type 0} (x : T) (b : OpenedBanks) (l : CycleLogged) (d : D) → These {E = E} [] (Ok x) b b l l d d
  commits_none x b l d = record {
    banks_are = refl;
    log_is = same_log;
    time = none_made (clock d) (good d) x;
    taken = λ bytes v ready. (bytes, ready.0.quiet, ready.0.view_is, past_self b.store.header bytes);
    stopped = tt;
    any_moment = λ bytes v ready. record { nothing_else = λ t image within left. inl left; past_stays = λ t image within left. left };
    past = λ bytes v ready. record { nothing_else = λ t image within left. inl left; past_stays = λ t image within left. left };
  }
    where
      same_log : l ≡ record { acks = l.acks ++ []; commands = l.commands ++ []; spare = l.spare - 0 }
      same_log = rw (append-nil l.acks, append-nil l.commands) (let e : l.spare - 0 ≡ l.spare = omega arith in rw e refl)

  -- what a call answered is no matter
  pub commits_same : {T E T' E' : Type 0} (xs : List Issue) (r : Result T E) (x : T) (y : T') (b b' : OpenedBanks) (l l' : CycleLogged) (d d' : D) → r ≡ Ok x → These xs r b b' l l' d d' → These {E = E'} xs (Ok y) b b' l l' d d'
  commits_same {T} {E} xs r x y b b' l l' d d' was h =
      let k = subst (λ (q : Result T E). These xs q b b' l l' d d') was h in record {
        banks_are = k.banks_are;
        log_is = k.log_is;
        time = record { later = k.time.later; ok = k.time.ok; good_is = k.time.good_is; few = tt; made = tt; last = tt };
        taken = k.taken;
        stopped = tt;
        any_moment = k.any_moment;
        past = k.past;
      }

  -- a command failed, and others would have followed
  pub commits_first : {T E T' E' : Type 0} (xs ys : List Issue) (e : E) (e' : E') (b b' : OpenedBanks) (l l' : CycleLogged) (d d' : D) → These {T = T} xs (Err e) b b' l l' d d' → These {T = T'} (xs ++ ys) (Err e') b b' l l' d d'
  commits_first xs ys e e' b b' l l' d d' h =
      let s = state_of b in
      let a = steps_from s xs in
      let more = steps_from (state_after s a) ys in record {
        banks_are = tt;
        log_is = tt;
        time = rw (calls-append s xs ys) (makes_first (all_calls a) (all_calls more) (clock d) (clock d') (good d) (good d') e e' h.time);
        taken = tt;
        stopped = stops_first b b' xs ys (clock d) (clock d') (content d) (content d') (settled d) (settled d') l l' h.stopped;
        any_moment = λ bytes v ready. elapses_more (clock d) (since d) (since d') (IsAfterFirst a v) (IsAfterFirst (steps_from s (xs ++ ys)) v) (h.any_moment bytes v ready)
            (λ image p. rw (steps_from-append s xs ys) (passed_first a more v image p));
        past = h.past;
      }

  -- after all of them others follow
  pub commits_again : {T E T' E' : Type 0} (xs ys : List Issue) (x : T) (r : Result T' E') (b b' b'' : OpenedBanks) (l l' l'' : CycleLogged) (d d' d'' : D) → These {E = E} xs (Ok x) b b' l l' d d' → These ys r b' b'' l' l'' d' d'' → These (xs ++ ys) r b b'' l l'' d d''
  commits_again xs ys x r b b' b'' l l' l'' d d' d'' h k =
      joined xs ys x r b b'' l l'' d d' d'' (rw (h.banks_are, h.log_is) at h) (subst (λ (m : CycleLogged). These ys r (opened_after b (steps_from (state_of b) xs)) b'' m l'' d' d'') h.log_is (subst (λ (o : OpenedBanks). These ys r o b'' l' l'' d' d'') h.banks_are k))
    where
      joined : {T E T' E' : Type 0} (xs ys : List Issue) (x : T) (r : Result T' E') (b b'' : OpenedBanks) (l l'' : CycleLogged) (d d' d'' : D)
          → These {E = E} xs (Ok x) b (opened_after b (steps_from (state_of b) xs)) l (record { acks = l.acks ++ acks_from (state_of b) xs; commands = l.commands ++ commands_from xs; spare = l.spare - length xs }) d d'
          → These ys r (opened_after b (steps_from (state_of b) xs)) b'' (record { acks = l.acks ++ acks_from (state_of b) xs; commands = l.commands ++ commands_from xs; spare = l.spare - length xs }) l'' d' d'' → These (xs ++ ys) r b b'' l l'' d d''
      joined xs ys x r b b'' l l'' d d' d'' h k =
          let s = state_of b in
          let a = steps_from s xs in
          let more = steps_from (state_after s a) ys in
          let risen = h.time.ok in
          let later = k.time.later in record {
            banks_are = map_ok r k.banks_are (λ e. e ∙ opened-append b a more ∙ ap (opened_after b) (sym (steps_from-append s xs ys)));
            log_is = map_ok r k.log_is (λ e. e ∙ logged-append l (acks_from s xs) (acks_from (state_after s a) ys) (commands_from xs) (commands_from ys) (length xs) (length ys) (acks_from s (xs ++ ys)) (commands_from (xs ++ ys)) (length (xs ++ ys)) (acks_from-append s xs ys) (map-append (λ (i : Issue). i.command) xs ys) (length-append xs ys));
            time = rw (calls-append s xs ys) (makes_again (all_calls a) (all_calls more) (clock d) (clock d') (clock d'') (good d) (good d') (good d'') x r h.time k.time);
            taken = map_ok r k.taken (λ taken bytes v ready.
                let first = h.taken bytes v ready in
                let next = taken first.0 (view_after v a) (ready_after b a first.0 d' v ready.1 first.1 first.2) in
                (next.0, next.1, rw (steps_from-append s xs ys) (says-append a more v next.0 next.2), past_again b.store.header bytes first.0 next.0 first.3 next.3));
            stopped = map_err r k.stopped (λ stopped. stops_later b b'' xs ys (clock d) (clock d') (clock d'') (content d) (content d') (content d'') (settled d) (settled d') (settled d'') l (record { acks = l.acks ++ acks_from s xs; commands = l.commands ++ commands_from xs; spare = l.spare - length xs }) l'' risen later refl refl
                (λ bytes v ready. let first = h.taken bytes v ready in (first.0, ready_after b a first.0 d' v ready.1 first.1 first.2)) stopped);
            any_moment = λ bytes v ready.
                let first = h.taken bytes v ready in
                elapses_again (clock d) (clock d') (since d) (since d') (since d'') (IsAfterFirst a v) (IsAfterFirst more (view_after v a)) (IsAfterFirst (steps_from s (xs ++ ys)) v)
                (h.any_moment bytes v ready) (k.any_moment first.0 (view_after v a) (ready_after b a first.0 d' v ready.1 first.1 first.2)) h.time.later
                (λ image p. rw (steps_from-append s xs ys) (passed_first a more v image p))
                (λ image p. rw (steps_from-append s xs ys) (passed_later a more v image p));
            past = λ bytes v ready.
                let first = h.taken bytes v ready in
                elapses_again (clock d) (clock d') (since d) (since d') (since d'') (KeepsPast b.store.header bytes) (KeepsPast b.store.header first.0) (KeepsPast b.store.header bytes)
                (h.past bytes v ready) (k.past first.0 (view_after v a) (ready_after b a first.0 d' v ready.1 first.1 first.2)) h.time.later
                (λ image p. p)
                (λ image p. past_again b.store.header bytes first.0 image first.3 p);
          }
        where
          logged-append : (l : CycleLogged) (p q : List Ack) (u v : List Command) (m n : ℕ) (all : List Ack) (more : List Command) (k : ℕ) → all ≡ p ++ q → more ≡ u ++ v → k ≡ m + n
              → ◌≡◌ {A = CycleLogged} (record { acks = (l.acks ++ p) ++ q; commands = (l.commands ++ u) ++ v; spare = l.spare - m - n }) (record { acks = l.acks ++ all; commands = l.commands ++ more; spare = l.spare - k })
          logged-append l p q u v m n all more k e h f =
              let spare : l.spare - m - n ≡ l.spare - k = omega (arith, f) in
              rw (append_assoc l.acks p q, ← e, append_assoc l.commands u v, ← h, spare) refl

          ready_after : (b : OpenedBanks) (a : List BankStep) (now : List ℕ) (d : D) (v : View) → v.store ≡ b.store → IsQuiet (content d) (settled d) now → SaysAfter v a now → IsFoundWith (after b.store a) (content d) (settled d) now (view_after v a)
          ready_after b a now d v same quiet says = (record { quiet = quiet; view_is = says }, ap (λ store. after store a) same)

  -- one command that was applied
  pub one_applied : {T E : Type 0} (x : T) (i : Issue) (b b' : OpenedBanks) (l l' : CycleLogged) (d d' : D) → let r = reply_to (state_of b) i.command in
      l' ≡ record { acks = l.acks ++ ack_of i r ∷ []; commands = l.commands ++ i.command ∷ []; spare = l.spare - 1 } → state_of b' ≡ state_after (state_of b) r.steps → b'.count ≡ b.count → b'.ended ≡ b.ended
      → Makes {T = T} {E = E} (all_calls r.steps) (clock d) (clock d') (good d) (good d') (Ok x)
      → ((bytes : List ℕ) (v : View) → IsFoundWith b.store (content d) (settled d) bytes v → (now : List ℕ) × IsQuiet (content d') (settled d') now × SaysAfter v r.steps now × KeepsPast b.store.header bytes now)
      → ((bytes : List ℕ) (v : View) → IsFoundWith b.store (content d) (settled d) bytes v → Elapses (clock d) (since d) (since d') (IsAfterFirst r.steps v))
      → ((bytes : List ℕ) (v : View) → IsFoundWith b.store (content d) (settled d) bytes v → Elapses (clock d) (since d) (since d') (KeepsPast b.store.header bytes))
      → These {E = E} (i ∷ []) (Ok x) b b' l l' d d'
  one_applied x i b b' l l' d d' log state count ended time taken passed past =
      let r = reply_to (state_of b) i.command in
      let one : r.steps ++ [] ≡ r.steps = append-nil r.steps in record {
        banks_are = rw one (parts b' (opened_after b r.steps) state count ended);
        log_is = log;
        time = rw one time;
        taken = rw one taken;
        stopped = tt;
        any_moment = rw one passed;
        past = past;
      }
    where
      parts : (o p : OpenedBanks) → state_of o ≡ state_of p → o.count ≡ p.count → o.ended ≡ p.ended → o ≡ p
      parts o p e f g =
          let store : o.store ≡ p.store = ap (λ (s : State). s.store) e in
          let held : o.held ≡ p.held = ap (λ (s : State). s.held) e in
          let whole : ◌≡◌ {A = OpenedBanks} (record { store = o.store; count = o.count; held = o.held; ended = o.ended }) (record { store = p.store; count = p.count; held = p.held; ended = p.ended }) = cc in whole

  -- one command that failed
  pub one_failed : {T E : Type 0} (e : E) (i : Issue) (b b' : OpenedBanks) (l : CycleLogged) (d d' : D) → let r = reply_to (state_of b) i.command in
      b' ≡ ended_after b → Makes {T = T} {E = E} (all_calls r.steps) (clock d) (clock d') (good d) (good d') (Err e)
      → ((bytes image : List ℕ) (v : View) → IsFoundWith b.store (content d) (settled d) bytes v → MayLeave (content d') (settled d') image → (part : List BankStep) × IsLeftBy (clock d' - clock d) r.steps part × SaysAfter v part image)
      → ((bytes : List ℕ) (v : View) → IsFoundWith b.store (content d) (settled d) bytes v → Elapses (clock d) (since d) (since d') (IsAfterFirst r.steps v))
      → ((bytes : List ℕ) (v : View) → IsFoundWith b.store (content d) (settled d) bytes v → Elapses (clock d) (since d) (since d') (KeepsPast b.store.header bytes))
      → These {T = T} (i ∷ []) (Err e) b b' l l d d'
  one_failed e i b b' l d d' ended time cut passed past =
      let r = reply_to (state_of b) i.command in
      let one : r.steps ++ [] ≡ r.steps = append-nil r.steps in
      let few = time.few in
      let later = time.later in
      let none : clock d' - clock d - 0 ≡ clock d' - clock d = omega arith in record {
        banks_are = tt;
        log_is = tt;
        time = rw one time;
        taken = tt;
        stopped = record {
          j = 0;
          fails = record { reply = r; at = refl; past = omega arith; within = omega (arith, few, later) };
          made = λ room. let made = time.made room in omega (arith, made);
          banks_are = ended;
          log_is = sym (append-nil l.acks);
          commands_are = sym (append-nil l.commands);
          cut = λ bytes image v ready left. let c = cut bytes image v ready left in record { part = c.0; left = subst (λ n. IsLeftBy n r.steps c.0) (sym none) c.1; says = c.2 };
        };
        any_moment = rw one passed;
        past = past;
      }

  -- the same, with what a call answered
  pub commits_failed : {T E T' E' : Type 0} (xs ys zs : List Issue) (r : Result T E) (r' : Result T' E') (e : E) (b b' : OpenedBanks) (l l' : CycleLogged) (d d' : D) → zs ≡ xs ++ ys → r ≡ Err e → IsErr r' → These xs r b b' l l' d d' → These zs r' b b' l l' d d'
  commits_failed xs ys zs r (Ok x) e b b' l l' d d' all was is h = absurd (false≢true is)
  commits_failed {T} {E} {T'} {E'} xs ys zs r (Err e') e b b' l l' d d' all was is h =
      let q : Result T' E' = Err e' in
      subst (λ (ws : List Issue). These ws q b b' l l' d d') (sym all)
      (commits_first xs ys e e' b b' l l' d d' (subst (λ (q : Result T E). These xs q b b' l l' d d') was h))

  pub commits_then : {T E T' E' : Type 0} (xs ys zs : List Issue) (r : Result T E) (r' : Result T' E') (x : T) (b b' b'' : OpenedBanks) (l l' l'' : CycleLogged) (d d' d'' : D) → zs ≡ xs ++ ys → r ≡ Ok x → These xs r b b' l l' d d' → These ys r' b' b'' l' l'' d' d'' → These zs r' b b'' l l'' d d''
  commits_then {T} {E} xs ys zs r r' x b b' b'' l l' l'' d d' d'' all was h k =
      subst (λ (ws : List Issue). These ws r' b b'' l l'' d d'') (sym all)
      (commits_again xs ys x r' b b' b'' l l' l'' d d' d'' (subst (λ (q : Result T E). These xs q b b' l l' d d') was h) k)
