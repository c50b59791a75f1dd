-- The definitions once more as facts: laws say that the tests, searches and slots mean these.
use Rattle.std.specs.Prelude.{◌≡◌, ◌≢◌, ℕ, ◌+◌, ◌-◌, ◌<◌, ◌≤◌, max, ◌⊎◌, Option, Some, None, ℤ, MatchOption, List, [], ◌∷◌, Contains}
use Rattle.edr_items.specs.declared.Item.{Item}
use Rattle.edr_items.specs.PerSlowSensor.{EachSlow}
use Rattle.edr_items.specs.SensorLists.{SensorLists, items_of}
use Rattle.edr_record.specs.declared.Command.{Command}
use Rattle.edr_record.specs.declared.Command.TheVariants.{Take, Lock, Done}
use Rattle.edr_record.specs.Bounds.{IsPre, IsCrash}
use Rattle.edr_record.specs.declared.TheConstants.{EARLIEST_END, RESET}
use Rattle.edr_definitions.specs.declared.limits.TheConstants.{ACROSS_TICKS, ALONG_TICKS, LONGEST_AGE, OVER, QUIET_SQUARES, QUIET_TICKS, TRIGGER, TRIGGER_TICKS}
use Rattle.edr_definitions.specs.Ticks.{IsFirst, HoldsNowhere}
use Rattle.edr_definitions.specs.Signals.{Signals, signals_of}
use Rattle.edr_definitions.specs.Windows.{delta_v, size_of_change, squares}
use Rattle.edr_definitions.specs.Selection.{Bounds, is_triggered, is_time_zero, is_end, close_of, Candidate, bounds_after, Event}
use Rattle.edr_definitions.specs.Parts.{slot}
use Rattle.edr_definitions.specs.Commands.{lock_of}

-- ---- the tests at a tick

-- some change up to t that begins at most k ticks before it, and not before `from`, has at least that size
pub record Reaches (axis : ℕ → Option ℤ) (k from t size : ℕ) : Type 0 where
  pub start : ℕ
  pub in_window : max from (t - k) ≤ start
  pub before : start < t
  pub large : size ≤ size_of_change axis start t

-- a restraint fires at t, or a change within 150 ms meets the trigger threshold
abbrev pub IsTriggered : Signals → ℕ → ℕ → Type 0
IsTriggered m since t =
    (m.fired t ≢ 0) ⊎ (Reaches m.along TRIGGER_TICKS since t TRIGGER ⊎ Reaches m.across TRIGGER_TICKS since t TRIGGER)

-- past the bound, a change of over 0.8 km/h along within 20 ms or across within 5 ms, or the trigger
abbrev pub IsTimeZero : Signals → Bounds → ℕ → Type 0
IsTimeZero m from t =
    (from.after < t) × (Reaches m.along ALONG_TICKS from.after t (OVER + 1) ⊎ (Reaches m.across ACROSS_TICKS from.after t (OVER + 1) ⊎ IsTriggered m from.since t))

-- the reset 500 ms after time zero, or, at least 20 ms after it, quiet changes of the last 20 ms
abbrev pub IsEnd : Signals → ℕ → ℕ → Type 0
IsEnd m z t =
    (t ≡ z + RESET) ⊎ ((z + EARLIEST_END ≤ t) × (squares (delta_v m.along (t - QUIET_TICKS) t) (delta_v m.across (t - QUIET_TICKS) t) ≤ QUIET_SQUARES))

-- ---- candidates

-- c is the candidate that the search finds from there on
pub record IsCandidate (m : Signals) (from : Bounds) (c : Candidate) : Type 0 where
  pub zero_is : IsFirst (is_time_zero m from) 0 c.zero_tick
  pub end_is : IsFirst (is_end m c.zero_tick) c.zero_tick c.end_tick
  pub confirmed_is :
      MatchOption c.confirmed
      (HoldsNowhere (is_triggered m from.since) c.zero_tick (c.end_tick + 1))
      (λ t. IsFirst (is_triggered m from.since) c.zero_tick t × (t ≤ c.end_tick))

-- each candidate is found from where the one before it leaves the search, and past the last one there is none up to `upto`
abbrev pub IsChain : Signals → ℕ → Bounds → List Candidate → Type 0
IsChain m upto from [] = HoldsNowhere (is_time_zero m from) 0 (upto + 1)
IsChain m upto from (c ∷ cs) = IsCandidate m from c × (c.zero_tick ≤ upto) × IsChain m upto (bounds_after from c) cs

-- the candidates follow one another from the first bounds, and leave the search at b
abbrev pub CandidatesLead : Signals → Bounds → List Candidate → Bounds → Type 0
CandidatesLead m from [] b = from ≡ b
CandidatesLead m from (c ∷ cs) b = IsCandidate m from c × CandidatesLead m (bounds_after from c) cs b

-- ---- events and their commands

-- how the ticks of an event lie that is confirmed by `upto`: past the tick `after` its time zero, confirmation, end and close in this order, and its lock between
pub record IsEventAfter (m : Signals) (upto after : ℕ) (e : Event) : Type 0 where
  pub zero_is_past : after < e.zero_tick
  pub confirmed_from_zero : e.zero_tick ≤ e.confirmed_tick
  pub confirmed_in_time : e.confirmed_tick ≤ upto
  pub confirmed_by_end : e.confirmed_tick ≤ e.end_tick
  pub ends_late : e.zero_tick + EARLIEST_END ≤ e.end_tick
  pub ends_by_reset : e.end_tick ≤ e.zero_tick + RESET
  pub closes_late : e.zero_tick + 50 ≤ close_of e.zero_tick e.end_tick
  pub closes_past_end : e.end_tick ≤ close_of e.zero_tick e.end_tick
  pub lock_in_event : (l : ℕ) → lock_of m e.zero_tick e.end_tick ≡ Some l → (e.confirmed_tick ≤ l) × (l ≤ close_of e.zero_tick e.end_tick)

-- each event lies so, and its time zero is past the close of the one before it
abbrev pub AreEventsAfter : Signals → ℕ → ℕ → List Event → Type 0
AreEventsAfter m upto after [] = Unit {0}
AreEventsAfter m upto after (e ∷ es) = IsEventAfter m upto after e × AreEventsAfter m upto (close_of e.zero_tick e.end_tick) es

-- the part that a command carries is in its bounds
abbrev pub IsInBounds : Command → Type 0
IsInBounds (Take pre) = IsPre pre
IsInBounds (Lock pre) = IsPre pre
IsInBounds (Done crash) = IsCrash crash

-- ---- greatest values and slots

-- t is the earliest of the ticks `a..b` at which f is greatest
pub record IsFirstGreatest (f : ℕ → ℕ) (a b t : ℕ) : Type 0 where
  pub from : a ≤ t
  pub below : t < b
  pub greatest : (u : ℕ) → a ≤ u → u < b → f u ≤ f t
  pub first : (u : ℕ) → a ≤ u → u < t → f u < f t

-- the item's moment lies in the 100 ms up to t
abbrev pub IsRecent : ℕ → Item → Type 0
IsRecent t x = (t ≤ x.moment + LONGEST_AGE) × (x.moment ≤ t)

-- v is the value of a sample of the list in the 100 ms up to t, and no sample there is later
pub record IsLatestSample (xs : List Item) (t : ℕ) (v : ℤ) : Type 0 where
  pub item : Item
  pub in_list : Contains xs item
  pub recent : IsRecent t item
  pub value_is : item.value ≡ Some v
  pub latest : (other : Item) (w : ℤ) → Contains xs other → IsRecent t other → other.value ≡ Some w → other.moment ≤ item.moment

-- no item of the list in the 100 ms up to t has a value
pub record HasNoSample (xs : List Item) (t : ℕ) : Type 0 where
  pub none : (x : Item) → Contains xs x → IsRecent t x → x.value ≡ None

-- ---- signals and lists that are alike

-- up to the tick t the signals are the same
pub record AgreeUpTo (t : ℕ) (m n : Signals) : Type 0 where
  pub along : (u : ℕ) → u ≤ t → m.along u ≡ n.along u
  pub across : (u : ℕ) → u ≤ t → m.across u ≡ n.across u
  pub fired : (u : ℕ) → u ≤ t → m.fired u ≡ n.fired u

-- up to the tick t the lists give the same signals, and each slow sensor the same slots
pub record GiveTheSameUpTo (t : ℕ) (f g : SensorLists) : Type 0 where
  pub signals : AgreeUpTo t (signals_of f) (signals_of g)
  pub slots : EachSlow (λ s. (u : ℕ) → u ≤ t → slot (items_of s f) u ≡ slot (items_of s g) u)
