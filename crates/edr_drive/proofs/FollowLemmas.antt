-- What is shown follows the banks, one command after the other.
use Rattle.std.proofs.Common.{◌≡◌, ◌≤◌, ◌+◌, ◌∙◌, ℕ, zero, suc, Bool, true, false, List, [], ◌∷◌, ◌++◌, ap, arith, length, length-append, refl, subst, sym, take, take_all}
use Rattle.std.proofs.lemmas.Bool.{false≢true}
use Rattle.std.proofs.lemmas.List.{take-append-le}
use Rattle.edr_record.specs.declared.Command.{Command}
use Rattle.edr_items.specs.SensorLists.{SensorLists}
use Rattle.edr_definitions.specs.Commands.{commands}
use Rattle.edr_image.specs.declared.Ack.{Ack}
use Rattle.edr_image.specs.Banks.{Store}
use Rattle.edr_image.specs.Steps.{BankStep, State, after, at_rest, reply_to, state_after, steps_of}
use Rattle.edr_run.specs.Cycle.{issues_in}
use Rattle.edr_run.specs.Schedule.{all_commands}
use Rattle.edr_run.proofs.ReplyLemmas.{one_reply, state_after-append, steps_of-more}
use Rattle.edr_banks.specs.Opened.{OpenedBanks, state_of}
use Rattle.edr_banks.specs.Applying.{opened_after, steps_for}
use Rattle.edr_cycle.specs.Commits.{commands_from}
use Rattle.edr_live.specs.declared.shown.LiveView.{LiveView}
use Rattle.edr_live.specs.declared.shown.ShownCommand.{ShownCommand}
use Rattle.edr_live.specs.Shown.{padded, shown_view}
use Rattle.edr_drive.specs.Following.{IsShownOf, state_from, views_from}

-- The banks o are the banks v after these commands. What is shown are those of v after the first of them, as many as were shown; and
-- unless it was cut, that is all.
pub record Follows (v : Store) (o : OpenedBanks) (cs : List Command) (opened : LiveView) (shown : List ShownCommand) (cut : Bool) : Type 0 where
  pub stands : state_of o ≡ state_from v cs
  pub within : length shown ≤ length cs
  pub views : (shown_view opened shown).views ≡ views_from v cs (length shown)
  pub all : cut ≡ false → length shown ≡ length cs

state-more : (v : Store) (cs : List Command) (o o' : OpenedBanks) (c : Command) → state_of o ≡ state_from v cs → o' ≡ opened_after o (steps_for o c) → state_of o' ≡ state_from v (cs ++ c ∷ [])
state-more v cs o o' c is next =
    let s = state_from v cs in
    ap state_of next ∙ ap (λ (t : State). state_after t (reply_to t c).steps) is ∙ state_after-append (at_rest v) (steps_of v cs) (reply_to s c).steps
    ∙ ap (state_after (at_rest v)) (sym (steps_of-more v cs (c ∷ []) ∙ ap (λ (zs : List BankStep). steps_of v cs ++ zs) (one_reply s c)))

-- all that was shown are the banks
pub follows-banks : (v : Store) (o : OpenedBanks) (cs : List Command) (opened : LiveView) (shown : List ShownCommand) (cut : Bool) → Follows v o cs opened shown cut → cut ≡ false → (shown_view opened shown).views ≡ padded 16 o.store.banks
follows-banks v o cs opened shown cut h off =
    let long = h.all off in
    h.views ∙ ap (λ (ds : List Command). padded 16 (after v (steps_of v ds)).banks) (take_all (length shown) cs (omega (arith, long)))
    ∙ sym (ap (λ (t : State). padded 16 t.store.banks) h.stands)

module _ (v : Store) (o o' : OpenedBanks) (cs : List Command) (c : Command) (w w' : LiveView) (xs xs' : List ShownCommand) (next : o' ≡ opened_after o (steps_for o c)) where
  longer : length (cs ++ c ∷ []) ≡ length cs + 1
  longer = length-append cs (c ∷ [])

  -- it is shown
  shown-more : (x : ShownCommand) → Follows v o cs w xs false → xs' ≡ xs ++ x ∷ [] → (shown_view w' xs').views ≡ padded 16 o'.store.banks → Follows v o' (cs ++ c ∷ []) w' xs' false
  shown-more x h more views =
      let n = ap length more ∙ length-append xs (x ∷ []) in
      let m = longer in
      let same = h.all refl in
      let long : length xs' ≡ length (cs ++ c ∷ []) = omega (arith, n, m, same) in
      let is = state-more v cs o o' c h.stands next in record {
        stands = is;
        within = omega (arith, long);
        views = views ∙ ap (λ (t : State). padded 16 t.store.banks) is
            ∙ ap (λ (ds : List Command). padded 16 (after v (steps_of v ds)).banks) (sym (take_all (length xs') (cs ++ c ∷ []) (omega (arith, long))));
        all = λ e. long;
      }

  -- it isn't shown, since memory has run out
  shown-no-more : (cut : Bool) → Follows v o cs w xs cut → w' ≡ w → xs' ≡ xs → Follows v o' (cs ++ c ∷ []) w' xs' true
  shown-no-more cut h opened same =
      let n = ap length same in
      let m = longer in
      let below = h.within in
      let first : take (length xs) (cs ++ c ∷ []) ≡ take (length xs) cs = take-append-le (length xs) cs (c ∷ []) below in
      let views : (shown_view w xs).views ≡ views_from v (cs ++ c ∷ []) (length xs) = h.views ∙ ap (λ (ds : List Command). padded 16 (after v (steps_of v ds)).banks) (sym first) in record {
        stands = state-more v cs o o' c h.stands next;
        within = omega (arith, n, m, below);
        views = subst (λ (u : LiveView). (shown_view u xs').views ≡ views_from v (cs ++ c ∷ []) (length xs')) (sym opened)
            (subst (λ (ys : List ShownCommand). (shown_view w ys).views ≡ views_from v (cs ++ c ∷ []) (length ys)) (sym same) views);
        all = λ e. absurd (false≢true (sym e));
      }

  -- one command more
  pub follows-more : (x : ShownCommand) (cut cut' : Bool) → Follows v o cs w xs cut → w' ≡ w → (cut ≡ true → cut' ≡ true) → (cut' ≡ false → xs' ≡ xs ++ x ∷ []) → (cut' ≡ true → xs' ≡ xs) → (cut' ≡ false → (shown_view w' xs').views ≡ padded 16 o'.store.banks)
      → Follows v o' (cs ++ c ∷ []) w' xs' cut'
  follows-more x cut true h opened stays more none views = shown-no-more cut h opened (none refl)
  follows-more x true false h opened stays more none views = absurd (false≢true (stays refl))
  follows-more x false false h opened stays more none views = shown-more x h (more refl) (views refl)

-- ---- at the end

first-ones : {X : Type 0} (p m : ℕ) (xs : List X) → p ≤ length (take m xs) → take p (take m xs) ≡ take p xs
first-ones zero m xs h = refl
first-ones (suc p) zero xs h = absurd (omega (arith, h))
first-ones (suc p) (suc m) [] h = refl
first-ones (suc p) (suc m) (x ∷ xs) h = ap (λ ys. x ∷ ys) (first-ones p m xs (omega (arith, h)))

commands-are : (f : SensorLists) (n : ℕ) → commands_from (issues_in f n) ≡ all_commands f n
unfolding commands
commands-are f n = refl

-- where the commands are the first ones of the cycle, what is shown are the banks after the first of these
pub last-shown : (v : Store) (f : SensorLists) (n m : ℕ) (o : OpenedBanks) (cs : List Command) (opened : LiveView) (shown : List ShownCommand) (cut : Bool) (acks : List Ack) → cs ≡ take m (commands_from (issues_in f n)) → length acks ≡ length cs → opened.banks ≡ v.header.banks
    → Follows v o cs opened shown cut → IsShownOf v f n acks (shown_view opened shown) cut
last-shown v f n m o cs opened shown cut acks first long count h =
    let p = length shown in
    let below = h.within in
    let few : p ≤ length (take m (commands_from (issues_in f n))) = subst (λ (ds : List Command). p ≤ length ds) first below in
    let same : take p cs ≡ take p (all_commands f n) = ap (take p) first ∙ first-ones p m (commands_from (issues_in f n)) few ∙ ap (take p) (commands-are f n) in record {
      within = omega (arith, below, long);
      count = count;
      views = h.views ∙ ap (λ (ds : List Command). padded 16 (after v (steps_of v ds)).banks) same;
      all = λ off. h.all off ∙ sym long;
    }
