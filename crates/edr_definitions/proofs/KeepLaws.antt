-- A core between its ticks: at the start, with one more item, and with a candidate open.
use Rattle.std.proofs.Common.{arith, refl, ap, subst, ◌≡◌, ◌∙◌, ℕ, ◌+◌, ◌<◌, ◌≤◌, Some, None, Option, []}
use Rattle.edr_record.specs.declared.TheConstants.{RESET}
use Rattle.edr_items.specs.declared.Sensor.{Sensor}
use Rattle.edr_items.specs.declared.Item.{Item}
use Rattle.edr_items.specs.Item.{refusal_of, mark_of}
use Rattle.edr_items.specs.SensorLists.{SensorLists, items_of, horizon_of}
use Rattle.edr_items.proofs.FeedLemmas.{refusal_of-rises}
use Rattle.edr_definitions.specs.Signals.{signals_of}
use Rattle.edr_definitions.specs.Selection.{Bounds, chain_from, candidate_at, at_start}
use Rattle.edr_definitions.specs.Facts.{GiveTheSameUpTo}
use Rattle.edr_definitions.specs.Commands.{last_placed, commands}
use Rattle.edr_definitions.specs.Search.{Phase, Searching, Open, Search, PhaseIs}
use Rattle.edr_definitions.specs.Schedule.{with_item}
use Rattle.edr_definitions.specs.Core.{CoreState, OpenIs, CoreStandsFor}
use Rattle.edr_definitions.proofs.SelectionLaws.{candidate_at-is}
use Rattle.edr_definitions.proofs.SearchLaws.{StandsFor-start, complete}
use Rattle.edr_definitions.proofs.TestLaws.{StandsFor-agree}
use Rattle.edr_definitions.proofs.PartLaws.{pre_part-same}
use Rattle.edr_definitions.proofs.IssueLaws.{events-same, zeros-same}
use Rattle.edr_definitions.proofs.LaterLaws.{GiveTheSameUpTo-push}
use Rattle.edr_definitions.proofs.TickChangeLaws.{end_later}
use Rattle.edr_definitions.proofs.EventLaws.{end-by_reset}
use Rattle.edr_definitions.proofs.MarkLaws.{horizon-least, horizon-with_item}
use Rattle.edr_definitions.proofs.CoreLaws.{zero_of_pre}

-- ---- the start
-- before the first tick a core with no event stands for any lists
pub core-start : (f : SensorLists) (n : ℕ) (k : CoreState) → k.linked ≡ None → CoreStandsFor f n 0 (record { bounds = at_start; phase = Searching }) k
unfolding chain_from
core-start f n k link = record {
  within = omega arith;
  search_is = StandsFor-start (signals_of f);
  linked_is = link;
  open_is = tt;
}

-- and no command was issued
pub commands-start : (f : SensorLists) (n : ℕ) → commands f n 0 ≡ []
unfolding commands chain_from
commands-start f n = refl

-- ---- lists that give the same so far
OpenIs-same : (f g : SensorLists) (n t : ℕ) (b : Bounds) (k : CoreState) (ph : Phase) → GiveTheSameUpTo t f g → PhaseIs (signals_of f) t b ph → OpenIs f n k ph → OpenIs g n k ph
OpenIs-same f g n t b k Searching same h o = tt
OpenIs-same f g n t b k (Open z c l None) same h o = (o.0 ∙ pre_part-same t n z k.frozen.place f g h.1 same, o.1, o.2)
OpenIs-same f g n t b k (Open z c l (Some e)) same h o =
    let order = h.1.from in let ended = h.2 in
    (o.0 ∙ pre_part-same t n z k.frozen.place f g (omega arith) same, o.1, o.2)

-- what stands for lists stands for others that give the same up to the closed tick
pub core-same : (f g : SensorLists) (n t : ℕ) (s : Search) (k : CoreState) → GiveTheSameUpTo t f g → t ≤ horizon_of g → CoreStandsFor f n t s k → CoreStandsFor g n t s k
core-same f g n t s k same within h = record {
  within = within;
  search_is = StandsFor-agree t (signals_of f) (signals_of g) s same.signals h.search_is;
  linked_is = h.linked_is ∙ ap last_placed (zeros-same (events-same (signals_of f) (signals_of g) t same.signals));
  open_is = OpenIs-same f g n t s.bounds k s.phase same h.search_is.phase_is h.open_is;
}

-- ---- one more item
-- an accepted item is of a later tick than the closed one
pub accepted-later : (f : SensorLists) (t : ℕ) (r : Sensor) (x : Item) → t ≤ horizon_of f → refusal_of r (mark_of (items_of r f)) x ≡ None → t < x.moment
accepted-later f t r x within accepted =
    let rises = refusal_of-rises r (mark_of (items_of r f)) x accepted in
    let low = horizon-least f r in omega (arith, within, low, rises)

-- a core that takes an accepted item stands for the longer lists
pub core-accept : (f : SensorLists) (n t : ℕ) (s : Search) (k : CoreState) (r : Sensor) (x : Item) → refusal_of r (mark_of (items_of r f)) x ≡ None → CoreStandsFor f n t s k → CoreStandsFor (with_item r x f) n t s k
core-accept f n t s k r x accepted h =
    let within = h.within in
    let grows = horizon-with_item r x f accepted in
    core-same f (with_item r x f) n t s k (GiveTheSameUpTo-push r f x t (accepted-later f t r x within accepted)) (omega (arith, within, grows)) h

-- ---- an open candidate
-- its time zero is that of the frozen pre part, and the closed tick is less than 500 ms past it
pub core-open : (f : SensorLists) (n t : ℕ) (s : Search) (k : CoreState) (z : ℕ) (c l e : Option ℕ) → CoreStandsFor f n t s k → s.phase ≡ Open z c l e → (k.frozen.key.zero ≡ z) × (z ≤ t) × (t < z + RESET)
unfolding candidate_at
core-open f n t s k z c l e h is = by_end e (subst (λ (ph : Phase). PhaseIs (signals_of f) t s.bounds ph) is h.search_is.phase_is) (subst (λ (ph : Phase). OpenIs f n k ph) is h.open_is) where
  by_end : (e : Option ℕ) → PhaseIs (signals_of f) t s.bounds (Open z c l e) → OpenIs f n k (Open z c l e) → (k.frozen.key.zero ≡ z) × (z ≤ t) × (t < z + RESET)
  by_end None p o =
      let m = signals_of f in
      let later = end_later m t z p.2 in
      let near = end-by_reset m s.bounds (candidate_at m s.bounds.since z) (candidate_at-is m s.bounds z p.0) in
      (zero_of_pre f n k.frozen.place z k.frozen o.0, p.1, omega (arith, later, near))
  by_end (Some e) p o =
      let m = signals_of f in
      let order = p.1.from in let ended = p.2 in let open_yet = p.5 in
      let near = end-by_reset m s.bounds (record { zero_tick = z; end_tick = e; confirmed = c }) (complete m s.bounds z e c p.0 p.1 p.3) in
      (zero_of_pre f n k.frozen.place z k.frozen o.0, omega (arith, order, ended), omega (arith, order, open_yet, near))
