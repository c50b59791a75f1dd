-- What is known of a desk once both ends of each ring are in one thread again.
use Rattle.std.proofs.Common.{arith, ◌≡◌, ◌∙◌, ◌+◌, ◌-◌, ◌*◌, ◌/◌, ◌≤◌, ℕ, List, ◌++◌, length, sym, ap, append_assoc}
use Rattle.std.proofs.lemmas.List.{length-append, length-map, map-append}
use Rattle.edr_items.specs.SensorLists.{SensorLists, horizon_of}
use Rattle.edr_definitions.specs.Commands.{issues}
use Rattle.edr_run.specs.Cycle.{issues_in}
use Rattle.edr_run.proofs.IssueLemmas.{issues-few}
use Rattle.edr_cycle.specs.Rest.{issues_past}
use Rattle.edr_cycle.proofs.RunStepLemmas.{between-whole}
use Rattle.edr_loops.specs.Lanes.{FastInlets}
use Rattle.edr_loops.specs.declared.orders.Order.{Order}
use Rattle.edr_seats.specs.Rings.{items_sent}
use Rattle.edr_loops.specs.Orders.{Outbox, issue_of, issues_of}
use Rattle.edr_loops.specs.declared.recorder.Desk.{Desk}
use Rattle.edr_loops.specs.UnsentOrders.{issues_held, issues_out}
use Rattle.edr_loops.specs.Lanes.{PartInlets, fast_taken, slow_taken}
use Rattle.edr_loops.specs.Recorders.{DeskStands}
use Rattle.edr_loops.proofs.CloseLemmas.{stands-sent}
use Rattle.edr_loops.proofs.RecorderLemmas.{stands-none, stands-unfast}

-- the ends of the rings may have learnt more
pub stands-settled : (n e : ℕ) (d : Desk) (fast : FastInlets) (parts : PartInlets) (o : Outbox) → fast_taken fast ≡ fast_taken d.fast → slow_taken parts ≡ slow_taken d.parts → items_sent o ≡ items_sent d.outbox
    → DeskStands n e d → DeskStands n e (record d { fast = fast; parts = parts; outbox = o })
stands-settled n e d fast parts o items slots sent s =
    stands-sent n e (record d { fast = fast; parts = parts }) o d.held (ap (λ os. issues_of os ++ issues_held d.held) sent)
    (stands-none n e (record d { fast = fast }) parts slots (stands-unfast n e d fast items s))

module _ (f : SensorLists) (n : ℕ) (d : Desk) (within : d.core.closed ≤ horizon_of f) (out : issues f n d.core.closed ≡ issues_out d.outbox d.held) (taken known : List Order) (all : taken ++ known ≡ items_sent d.outbox) where
  issued : issues f n d.core.closed ≡ issues_of taken ++ (issues_of known ++ issues_held d.held)
  issued = out ∙ ap (λ os. issues_of os ++ issues_held d.held) (sym all)
      ∙ ap (λ xs. xs ++ issues_held d.held) (map-append issue_of taken known) ∙ append_assoc (issues_of taken) (issues_of known) (issues_held d.held)

  -- the whole cycle: what was taken, what is left in the ring, what is held, and what is issued after it
  pub issues-settled : issues_in f n ≡ issues_of taken ++ (issues_of known ++ (issues_held d.held ++ issues_past f n d.core.closed))
  issues-settled =
      let rest = issues_past f n d.core.closed in
      between-whole f n d.core.closed (horizon_of f) (omega (arith, within)) ∙ ap (λ xs. xs ++ rest) issued
      ∙ append_assoc (issues_of taken) (issues_of known ++ issues_held d.held) rest ∙ ap (λ xs. issues_of taken ++ xs) (append_assoc (issues_of known) (issues_held d.held) rest)

  count : length (issues f n d.core.closed) ≡ length taken + (length known + length (issues_held d.held))
  count = ap length issued ∙ length-append (issues_of taken) (issues_of known ++ issues_held d.held)
      ∙ ap (λ k. k + length (issues_of known ++ issues_held d.held)) (length-map taken issue_of)
      ∙ ap (λ k. length taken + k) (length-append (issues_of known) (issues_held d.held) ∙ ap (λ k. k + length (issues_held d.held)) (length-map known issue_of))

  module _ (spare : ℕ) (room : 3 * (horizon_of f / 51 + 1) ≤ spare + length taken) where
    enough : length known + length (issues_held d.held) ≤ spare
    enough =
        let few = issues-few f n d.core.closed in
        let c = count in
        let below : d.core.closed / 51 ≤ horizon_of f / 51 = omega (arith, within) in
        omega (arith, few, below, c, room)

    pub room-known : length known ≤ spare
    room-known = let e = enough in omega (arith, e)

    pub room-held : length (issues_held d.held) ≤ spare - length known
    room-held = let e = enough in omega (arith, e)

    pub room-past : 3 * (horizon_of f / 51 + 1) ≤ spare - length known - length (issues_held d.held) + length (issues f n d.core.closed)
    room-past = let e = enough in let c = count in omega (arith, e, c, room)
