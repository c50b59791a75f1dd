-- What was issued, as it leaves the recorder.
use Rattle.std.specs.Prelude.{List, Option, ◌++◌}
use Rattle.std.specs.Option.{option_to_list}
use Rattle.edr_definitions.specs.Commands.{Issue}
use Rattle.edr_loops.specs.declared.orders.Order.{Order}
use Rattle.edr_seats.specs.Rings.{items_sent}
use Rattle.edr_loops.specs.Orders.{Outbox, issues_of}
use Rattle.edr_loops.specs.declared.unsent_orders.UnsentOrders.{UnsentOrders}

abbrev pub issues_held : UnsentOrders → List Issue
issues_held h = issues_of (option_to_list h.take ++ (option_to_list h.lock ++ option_to_list h.done))

-- what was sent, and then what is held
abbrev pub issues_out : Outbox → UnsentOrders → List Issue
issues_out o h = issues_of (items_sent o) ++ issues_held h

abbrev pub issues_out_one : Outbox → Option Order → List Issue
issues_out_one o h = issues_of (items_sent o ++ option_to_list h)
