-- The law of any schedule.
use Rattle.std.proofs.Common.{◌≡◌, ◌⊎◌, ◌≤◌, ◌<◌, ◌+◌, ◌-◌, ◌∙◌, ℕ, Some, List, [], ◌∷◌, ◌++◌, length, map, take, refl, sym, ap, subst, inl, inr, arith, append-nil, append_assoc, length-append}
use Rattle.std.specs.Prelude.{slice_get, drop}
use Rattle.std.proofs.lemmas.List.Sums.{sum_by-append}
use Rattle.std.proofs.Math.Seq.{take-length}
use Rattle.edr_definitions.proofs.KeepLaws.{commands-start}
use Rattle.edr_image.specs.Calls.{IsStop, all_calls, calls_of}
use Rattle.edr_image.proofs.StopLaws.{stop-within}
use Rattle.std.proofs.lemmas.List.{map-append, take-append-drop}
use Rattle.edr_items.specs.declared.Sensor.{Sensor}
use Rattle.edr_items.specs.declared.Item.{Item}
use Rattle.edr_items.specs.Item.{mark_of, IsFeed}
use Rattle.edr_items.specs.SensorLists.{SensorLists, items_of, horizon_of, AreFeeds, no_items}
use Rattle.edr_items.proofs.FeedLemmas.{refusal_of-rises}
use Rattle.edr_record.specs.declared.Command.{Command}
use Rattle.edr_definitions.specs.Commands.{Issue, commands, issues}
use Rattle.edr_definitions.specs.Schedule.{Progress, Give, Close, BeginsWith, IsAllowed, IsUnderWay, after_step}
use Rattle.edr_definitions.proofs.LaterLaws.{commands-push}
use Rattle.edr_definitions.proofs.MarkLaws.{horizon-least, horizon-more, horizon-with_item, mark-more}
use Rattle.edr_definitions.proofs.ScheduleLaws.{items-after_steps}
use Rattle.edr_image.specs.Banks.{Store}
use Rattle.edr_image.specs.Steps.{BankStep, State, after, at_rest, reply_to, state_after, steps_of}
use Rattle.edr_run.specs.Schedule.{ScheduleState, Begins, IsCut, IsNextApplied, IsStep, gives, closes, applies, Leads, all_commands, new_schedule, issued_at, steps_of_first}
use Rattle.edr_run.specs.Cycle.{steps_in}
use Rattle.edr_run.proofs.IssueLemmas.{issues-more, issues-under_way}
use Rattle.edr_run.proofs.ReplyLemmas.{after-append, get_first, one_reply, stop_first, stop_later, state_after-append, steps_of-more, take_one_more}

-- ---- commands, as the issues without their ticks
commands-under_way : (f : SensorLists) (p : Progress) (n t : ℕ) → AreFeeds f → IsUnderWay f p → t ≤ horizon_of p.given → commands p.given n t ≡ commands f n t
unfolding commands
commands-under_way f p n t feeds on upto = ap (map (λ i. i.command)) (issues-under_way f p n t feeds on upto)

commands-later : (f : SensorLists) (n t k : ℕ) → (more : List Command) × (commands f n (t + k) ≡ commands f n t ++ more)
unfolding commands
commands-later f n t k =
    let m = issues-more f n t k in
    (map (λ i. i.command) m.0, ap (map (λ i. i.command)) m.1 ∙ map-append (λ (i : Issue). i.command) (issues f n t) m.0)

-- ---- what is given only grows
begins-again : (xs ys zs : List Item) → BeginsWith ys xs → BeginsWith zs ys → BeginsWith zs xs
begins-again xs ys zs a b = (a.0 ++ b.0, b.1 ∙ ap (λ l. l ++ b.0) a.1 ∙ append_assoc xs a.0 b.0)

step-grows : (n : ℕ) (a b : ScheduleState) → IsStep n a b → (s : Sensor) → BeginsWith (items_of s b.progress.given) (items_of s a.progress.given)
step-grows n a b (gives r x may is) s =
    (_, ap (λ (m : ScheduleState). items_of s m.progress.given) is ∙ items-after_steps a.progress (Give r x ∷ []) s)
step-grows n a b (closes may is) s = ([], ap (λ (m : ScheduleState). items_of s m.progress.given) is ∙ sym (append-nil (items_of s a.progress.given)))
step-grows n a b (applies c next is) s = ([], ap (λ (m : ScheduleState). items_of s m.progress.given) is ∙ sym (append-nil (items_of s a.progress.given)))

leads-grows : (n : ℕ) (a : ScheduleState) (ms : List ScheduleState) (b : ScheduleState) → Leads n a ms b → (s : Sensor) → BeginsWith (items_of s b.progress.given) (items_of s a.progress.given)
leads-grows n a [] b is s = ([], ap (λ (m : ScheduleState). items_of s m.progress.given) (sym is) ∙ sym (append-nil (items_of s a.progress.given)))
leads-grows n a (m ∷ ms) b h s = begins-again (items_of s a.progress.given) (items_of s m.progress.given) (items_of s b.progress.given) (step-grows n a m h.0 s) (leads-grows n m ms b h.1 s)

-- ---- what stands at each moment
pub record Stands (f : SensorLists) (n : ℕ) (v : Store) (a : ScheduleState) : Type 0 where
  pub within : a.progress.closed ≤ horizon_of a.progress.given
  pub issued_is : a.issued ≡ length (issued_at n a)
  pub few : a.applied ≤ a.issued
  pub banks_are : a.banks ≡ state_after (at_rest v) (steps_of_first f n v a.applied)

module _ (f : SensorLists) (n : ℕ) (v : Store) (feeds : AreFeeds f) where
  -- no more was given than there is
  horizon-low : (a : ScheduleState) → Begins f a → horizon_of a.progress.given ≤ horizon_of f
  horizon-low a begun_ = horizon-more a.progress.given f (λ s.
      let whole : IsFeed s (items_of s a.progress.given ++ (begun_ s).0) = subst (λ (xs : List Item). IsFeed s xs) (begun_ s).1 (feeds s) in
      let more = mark-more s 0 (items_of s a.progress.given) (begun_ s).0 whole in
      let e : mark_of (items_of s f) ≡ mark_of (items_of s a.progress.given ++ (begun_ s).0) = ap mark_of (begun_ s).1 in
      omega (arith, more, e))

  -- what is issued is a beginning of the commands of the cycle
  pub issued-first : (a : ScheduleState) → Begins f a → a.progress.closed ≤ horizon_of a.progress.given → (more : List Command) × (all_commands f n ≡ issued_at n a ++ more)
  issued-first a begun_ within =
      let t = a.progress.closed in
      let high = horizon-low a begun_ in
      let later = commands-later f n t (horizon_of f - t) in
      let whole : t + (horizon_of f - t) ≡ horizon_of f = omega (arith, within, high) in
      (later.0, ap (commands f n) (sym whole) ∙ later.1 ∙ ap (λ cs. cs ++ later.0) (sym (commands-under_way f a.progress n t feeds (record { begun = begun_; within = within }) within)))

  -- the command that is applied next is the next one of the cycle
  pub next-is : (a : ScheduleState) (c : Command) → Begins f a → a.progress.closed ≤ horizon_of a.progress.given → IsNextApplied n a c → slice_get (all_commands f n) a.applied ≡ Some c
  next-is a c begun_ within next =
      let first = issued-first a begun_ within in
      subst (λ cs. slice_get cs a.applied ≡ Some c) (sym first.1) (get_first (issued_at n a) first.0 a.applied c next.1)

  -- its steps come after those of the ones before it
  pub steps-next : (j : ℕ) (c : Command) → slice_get (all_commands f n) j ≡ Some c → steps_of_first f n v (j + 1) ≡ steps_of_first f n v j ++ (reply_to (state_after (at_rest v) (steps_of_first f n v j)) c).steps
  steps-next j c at =
      let cs = take j (all_commands f n) in
      ap (steps_of v) (take_one_more (all_commands f n) j c at) ∙ steps_of-more v cs (c ∷ []) ∙ ap (λ zs. steps_of v cs ++ zs) (one_reply (state_after (at_rest v) (steps_of v cs)) c)

  stands-gives : (a : ScheduleState) (s : Sensor) (x : Item) → Stands f n v a → IsAllowed (Give s x) a.progress → Stands f n v (record { progress = after_step a.progress (Give s x); issued = a.issued; applied = a.applied; banks = a.banks })
  stands-gives a s x h may =
      let p = a.progress in
      let low = horizon-least p.given s in
      let rises = refusal_of-rises s (mark_of (items_of s p.given)) x may.0 in
      let within = h.within in
      let up = horizon-with_item s x p.given may.0 in record {
        within = omega (arith, within, up);
        issued_is = h.issued_is ∙ ap length (commands-push s p.given x n p.closed (omega (arith, low, rises, within)));
        few = h.few;
        banks_are = h.banks_are;
      }

  stands-closes : (a : ScheduleState) → Stands f n v a → IsAllowed Close a.progress → Stands f n v (record { progress = after_step a.progress Close; issued = length (commands a.progress.given n (a.progress.closed + 1)); applied = a.applied; banks = a.banks })
  stands-closes a h may =
      let p = a.progress in
      let more = commands-later p.given n p.closed 1 in
      let longer = ap length more.1 ∙ length-append (commands p.given n p.closed) more.0 in
      let few = h.few in
      let before = h.issued_is in record {
        within = omega (arith, may);
        issued_is = refl;
        few = omega (arith, few, before, longer);
        banks_are = h.banks_are;
      }

  stands-applies : (a : ScheduleState) (c : Command) → Begins f a → Stands f n v a → IsNextApplied n a c → Stands f n v (record { progress = a.progress; issued = a.issued; applied = a.applied + 1; banks = state_after a.banks (reply_to a.banks c).steps })
  stands-applies a c begun_ h next =
      let j = a.applied in
      let s = state_after (at_rest v) (steps_of_first f n v j) in
      let fewer = next.0 in record {
        within = h.within;
        issued_is = h.issued_is;
        few = omega (arith, fewer);
        banks_are =
            ap (λ b. state_after b (reply_to b c).steps) h.banks_are
            ∙ state_after-append (at_rest v) (steps_of_first f n v j) (reply_to s c).steps
            ∙ ap (state_after (at_rest v)) (sym (steps-next j c (next-is a c begun_ h.within next)));
      }

  stands-step : (a b : ScheduleState) → Begins f a → Stands f n v a → IsStep n a b → Stands f n v b
  stands-step a b begun_ h (gives s x may is) = subst (λ (m : ScheduleState). Stands f n v m) (sym is) (stands-gives a s x h may)
  stands-step a b begun_ h (closes may is) = subst (λ (m : ScheduleState). Stands f n v m) (sym is) (stands-closes a h may)
  stands-step a b begun_ h (applies c next is) = subst (λ (m : ScheduleState). Stands f n v m) (sym is) (stands-applies a c begun_ h next)

  pub stands-leads : (a : ScheduleState) (ms : List ScheduleState) (b : ScheduleState) → Begins f b → Stands f n v a → Leads n a ms b → Stands f n v b
  stands-leads a [] b begun_ h is = subst (λ (m : ScheduleState). Stands f n v m) is h
  stands-leads a (m ∷ ms) b begun_ h (step, rest) =
      let there : Begins f m = λ s. begins-again (items_of s m.progress.given) (items_of s b.progress.given) (items_of s f) (leads-grows n m ms b rest s) (begun_ s) in
      let here : Begins f a = λ s. begins-again (items_of s a.progress.given) (items_of s m.progress.given) (items_of s f) (step-grows n a m step s) (there s) in
      stands-leads m ms b begun_ (stands-step a m here h step) rest

-- ---- the law
module _ (f : SensorLists) (n : ℕ) (v : Store) where
  -- at first nothing was done
  stands-begun : Stands f n v (new_schedule v)
  stands-begun = record {
    within = omega arith;
    issued_is = sym (ap length (commands-start no_items n));
    few = omega arith;
    banks_are = refl;
  }

  pub stands-any : AreFeeds f → (ms : List ScheduleState) (b : ScheduleState) → Leads n (new_schedule v) ms b → Begins f b → Stands f n v b
  stands-any feeds ms b leads begun_ = stands-leads f n v feeds (new_schedule v) ms b begun_ stands-begun leads

pub banks-any : (f : SensorLists) (n : ℕ) (v : Store) (ms : List ScheduleState) (b : ScheduleState) → AreFeeds f → Leads n (new_schedule v) ms b → Begins f b → b.banks ≡ state_after (at_rest v) (steps_of_first f n v b.applied)
banks-any f n v ms b feeds leads begun_ = (stands-any f n v feeds ms b leads begun_).banks_are

-- all commands' steps are those of the cycle
pub all-steps : (f : SensorLists) (n : ℕ) (v : Store) → steps_of v (all_commands f n) ≡ steps_in f n v
unfolding commands steps_in
all-steps f n v = refl

-- the first of them come first
first-steps : (f : SensorLists) (n : ℕ) (v : Store) (j : ℕ) → (more : List BankStep) × (steps_in f n v ≡ steps_of_first f n v j ++ more)
first-steps f n v j =
    let cs = all_commands f n in
    (_, sym (all-steps f n v) ∙ ap (steps_of v) (sym (take-append-drop j cs)) ∙ steps_of-more v (take j cs) (drop j cs))

pub cut-any : (f : SensorLists) (n : ℕ) (v : Store) (ms : List ScheduleState) (b : ScheduleState) (w : Store) → AreFeeds f → Leads n (new_schedule v) ms b → Begins f b → IsCut n b w
    → (w ≡ after v (steps_of_first f n v b.applied))
    ⊎ ((k : ℕ) × (done : List BankStep) × IsStop (steps_in f n v) k done × (all_calls (steps_of_first f n v b.applied) < k) × (k ≤ all_calls (steps_of_first f n v (b.applied + 1))) × (w ≡ after v done))
cut-any f n v ms b w feeds leads begun_ (inl same) = inl (same ∙ ap (λ (s : State). s.store) (banks-any f n v ms b feeds leads begun_))
cut-any f n v ms b w feeds leads begun_ (inr (c, k, done, next, stop, is)) =
    let j = b.applied in
    let first = steps_of_first f n v j in
    let s = state_after (at_rest v) first in
    let h = stands-any f n v feeds ms b leads begun_ in
    let own = (reply_to s c).steps in
    let stop_here : IsStop own k done = subst (λ (t : State). IsStop (reply_to t c).steps k done) h.banks_are stop in
    let within = stop-within own done k stop_here in
    let one = steps-next f n v feeds j c (next-is f n v feeds b c begun_ h.within next) in
    let more = first-steps f n v (j + 1) in
    let calls : all_calls (steps_of_first f n v (j + 1)) ≡ all_calls first + all_calls own = ap all_calls one ∙ sum_by-append calls_of first own in
    let low = within.0 in
    let high = within.1 in
    inr (
      all_calls first + k,
      first ++ done,
      subst (λ steps. IsStop steps (all_calls first + k) (first ++ done)) (sym (more.1 ∙ ap (λ xs. xs ++ more.0) one)) (stop_first (first ++ own) more.0 (first ++ done) (all_calls first + k) (stop_later first own done k stop_here)),
      omega (arith, low),
      omega (arith, high, calls),
      is ∙ ap (λ (t : State). after t.store done) h.banks_are ∙ after-append v first done,
    )

pub whole-any : (f : SensorLists) (n : ℕ) (v : Store) (ms : List ScheduleState) (b : ScheduleState) → AreFeeds f → Leads n (new_schedule v) ms b → b.progress.given ≡ f → b.progress.closed ≡ horizon_of f → b.applied ≡ b.issued → b.banks.store ≡ after v (steps_in f n v)
whole-any f n v ms b feeds leads given closed applied =
    let begun_ : Begins f b = λ s. ([], ap (items_of s) (sym given) ∙ sym (append-nil (items_of s b.progress.given))) in
    let h = stands-any f n v feeds ms b leads begun_ in
    let all : b.applied ≡ length (all_commands f n) = applied ∙ h.issued_is ∙ ap (λ (g : SensorLists). length (commands g n b.progress.closed)) given ∙ ap (λ t. length (commands f n t)) closed in
    ap (λ (s : State). s.store) h.banks_are ∙ ap (λ j. after v (steps_of_first f n v j)) all ∙ ap (λ cs. after v (steps_of v cs)) (take-length (all_commands f n)) ∙ ap (after v) (all-steps f n v)
