-- One desk later than another.
use Rattle.std.proofs.Common.{arith, ◌≡◌, ◌∙◌, ◌≤◌, ℕ, max, refl, sym, subst}
use Rattle.edr_board.specs.Seats.{board_of_recorder, board_of_watch}
use Rattle.edr_board.specs.FreezeSeats.{freeze_of_asker}
use Rattle.edr_items.specs.PerSlowSensor.{slow_at}
use Rattle.edr_seats.specs.Rings.{SameSender}
use Rattle.edr_seats.proofs.RingLemmas.{receiver-again, receiver-self, sender-again, sender-self}
use Rattle.edr_core.specs.SplitContents.{SplitContents}
use Rattle.edr_loops.proofs.HandLemmas.{each-fast, of-each}
use Rattle.edr_loops.specs.PerFastSensor.{fast_at}
use Rattle.edr_loops.specs.declared.per_fast_sensor.PerFastSensor.{PerFastSensor}
use Rattle.edr_loops.specs.declared.unsent_orders.UnsentOrders.{UnsentOrders}
use Rattle.edr_loops.specs.Orders.{Outbox}
use Rattle.edr_loops.specs.declared.recorder.Desk.{Desk}
use Rattle.edr_loops.specs.Lanes.{FastInlets, PartInlets, SameFastInlets, SamePartInlets}
use Rattle.edr_loops.specs.Recorders.{RecordsOn, RecordsOnHolding, IsRecording, Later, LaterUpTo, SameDesk, SeatStays, DeskStands}

-- ---- the same rings
pub fast-self : (a : FastInlets) → SameFastInlets a a
fast-self a = each-fast _ (λ k. receiver-self (fast_at k a).inlet)

pub fast-again : (a b c : FastInlets) → SameFastInlets a b → SameFastInlets b c → SameFastInlets a c
fast-again a b c h k = each-fast _ (λ s. receiver-again (fast_at s a).inlet (fast_at s b).inlet (fast_at s c).inlet (of-each _ h s) (of-each _ k s))

pub parts-self : (a : PartInlets) → SamePartInlets a a
parts-self a = λ s slow. receiver-self (slow_at s a)

parts-again : (a b c : PartInlets) → SamePartInlets a b → SamePartInlets b c → SamePartInlets a c
parts-again a b c h k = λ s slow. receiver-again (slow_at s a) (slow_at s b) (slow_at s c) (h s slow) (k s slow)

-- ---- the same desk
pub desk-self : (a : Desk) → SameDesk a a
desk-self a = record { fast = fast-self a.fast; parts = parts-self a.parts; outbox = sender-self a.outbox; freeze = refl; recorder = refl; watch = refl }

pub same-taken : (d : Desk) (c : SplitContents) (i : FastInlets) (m : PerFastSensor ℕ) → SameFastInlets d.fast i → SameDesk d (record d { core = c; fast = i; last = m })
same-taken d c i m rings = record { fast = rings; parts = parts-self d.parts; outbox = sender-self d.outbox; freeze = refl; recorder = refl; watch = refl }

pub same-taken_part : (d : Desk) (c : SplitContents) (i : PartInlets) → SamePartInlets d.parts i → SameDesk d (record d { core = c; parts = i })
same-taken_part d c i rings = record { fast = fast-self d.fast; parts = rings; outbox = sender-self d.outbox; freeze = refl; recorder = refl; watch = refl }

pub same-sent : (d : Desk) (o : Outbox) (k : UnsentOrders) → SameSender d.outbox o → SameDesk d (record d { outbox = o; held = k })
same-sent d o k ring = record { fast = fast-self d.fast; parts = parts-self d.parts; outbox = ring; freeze = refl; recorder = refl; watch = refl }

pub later-self : (a : Desk) → Later a a
later-self a = record { same = desk-self a; stands = λ n e low s. s }

-- first up to one tick, then up to another
pub later-again : (t u v : ℕ) (a b c : Desk) → t ≤ v → u ≤ v → LaterUpTo t a b → LaterUpTo u b c → LaterUpTo v a c
later-again t u v a b c first second h k = record {
  same = record {
    fast = fast-again a.fast b.fast c.fast h.same.fast k.same.fast;
    parts = parts-again a.parts b.parts c.parts h.same.parts k.same.parts;
    outbox = sender-again a.outbox b.outbox c.outbox h.same.outbox k.same.outbox;
    freeze = k.same.freeze ∙ h.same.freeze;
    recorder = k.same.recorder ∙ h.same.recorder;
    watch = k.same.watch ∙ h.same.watch;
  };
  stands = λ n e low s. k.stands n e (omega (arith, second, low)) (h.stands n e (omega (arith, first, low)) s);
}

pub later-twice : (a b c : Desk) → Later a b → Later b c → Later a c
later-twice a b c h k = later-again 0 0 0 a b c (omega arith) (omega arith) h k

pub later-raised : (t u : ℕ) (a b : Desk) → t ≤ u → LaterUpTo t a b → LaterUpTo u a b
later-raised t u a b low h = record { same = h.same; stands = λ n e up s. h.stands n e (omega (arith, low, up)) s }

-- what stands under a horizon stands under a greater one
pub stands-under : (n e f : ℕ) (d : Desk) → e ≤ f → DeskStands n e d → DeskStands n f d
stands-under n e f d up s =
    let t = s.told in record {
      history = s.history;
      told = record { core_is = t.core_is; cycle_is = t.cycle_is; agrees = t.agrees; within = let low = t.within in omega (arith, low, up); parts_are = t.parts_are; issues_are = t.issues_are; taken_are = t.taken_are };
      last_is = s.last_is;
      granted_is = s.granted_is;
      asking_is = s.asking_is;
    }

pub recording-later : (t : ℕ) (a b : Desk) → LaterUpTo t a b → IsRecording a → IsRecording b
recording-later t a b h r =
    let n = r.0 in
    let e = max r.1 t in
    (n, e, h.stands n e (omega arith) (stands-under n r.1 e a (omega arith) r.2))

-- ---- steps that leave the rings and the board
pub later-by : (t : ℕ) (a b : Desk) → b.fast ≡ a.fast → b.parts ≡ a.parts → b.outbox ≡ a.outbox → freeze_of_asker b.asker ≡ freeze_of_asker a.asker → board_of_recorder b.seat ≡ board_of_recorder a.seat → board_of_watch b.watch ≡ board_of_watch a.watch
    → ((n e : ℕ) → t ≤ e → DeskStands n e a → DeskStands n e b) → LaterUpTo t a b
later-by t a b fast parts outbox freeze recorder watch stands = record {
  same = record {
    fast = subst (λ (i : FastInlets). SameFastInlets a.fast i) (sym fast) (fast-self a.fast);
    parts = subst (λ (i : PartInlets). SamePartInlets a.parts i) (sym parts) (parts-self a.parts);
    outbox = subst (λ (o : Outbox). SameSender a.outbox o) (sym outbox) (sender-self a.outbox);
    freeze = freeze;
    recorder = recorder;
    watch = watch;
  };
  stands = stands;
}

-- ---- a recording that goes on
pub going-on : (t : ℕ) (a b : Desk) → IsRecording a → LaterUpTo t a b → SeatStays a b → RecordsOn t a b
going-on t a b records later seat = record { later = later; stands = recording-later t a b later records; seat = seat }

pub on-again : (t u : ℕ) (a b c : Desk) → t ≤ u → RecordsOn t a b → RecordsOn u b c → RecordsOn u a c
on-again t u a b c up h k = record {
  later = later-again t u u a b c up (omega arith) h.later k.later;
  stands = k.stands;
  seat = (k.seat.0 ∙ h.seat.0, k.seat.1 ∙ h.seat.1);
}

-- the same where what it holds is left alone
pub holding-on : (t : ℕ) (a b : Desk) → IsRecording a → LaterUpTo t a b → SeatStays a b → b.held ≡ a.held → RecordsOnHolding t a b
holding-on t a b records later seat held = (going-on t a b records later seat, held)

pub holding-self : (a : Desk) → IsRecording a → RecordsOnHolding 0 a a
holding-self a records = holding-on 0 a a records (later-self a) (refl, refl) refl

pub holding-again : (t : ℕ) (a b c : Desk) → RecordsOnHolding t a b → RecordsOnHolding t b c → RecordsOnHolding t a c
holding-again t a b c h k = (on-again t t a b c (omega arith) h.0 k.0, k.1 ∙ h.1)
