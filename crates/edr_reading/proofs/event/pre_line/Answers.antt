use Rattle.std.proofs.Common.{rules}
use Rattle.edr_reading.proofs.event.pre_line.Goals.{in-Cycle+in_ok-pre-inside-in-Cycle, in-TimeZero+in_ok-pre-inside-in-TimeZero, in-Events+in_ok-pre-inside-in-Events, in-Between+in_ok-pre-inside-in-Between, in-Deployment+in_ok-locked-in-Deployment, in-Profile+in_ok-profile-in-Profile, in-Speed+in-Short+in_ok-read_slots-in-Short, in-Speed+in-Long+in_ok-read_slots-in-Long, in-Throttle+in-Short-slots+in_ok-read_slots-in-Short-slots, in-Throttle+in-Long-slots+in_ok-read_slots-in-Long-slots, in-Brake+in-Short-slots-2+in_ok-read_slots-in-Short-slots-2, in-Brake+in-Long-slots-2+in_ok-read_slots-in-Long-slots-2, in-Belt+in_ok-pre-inside-in-Belt, in-Lamp+in_ok-pre-inside-in-Lamp}
use Rattle.edr_reading.proofs.event.pre_line.Goals as goal

pub returns : goal.returns
returns c = elim c.match-line.branch [
  | in-Cycle+in_ok-pre-inside-in-Cycle w ↦ rw (w.pre-is, w.locked-is) (search rules)
  | in-TimeZero+in_ok-pre-inside-in-TimeZero w ↦ rw (w.pre-is, w.locked-is) (search rules)
  | in-Events+in_ok-pre-inside-in-Events w ↦ rw (w.pre-is, w.locked-is) (search rules)
  | in-Between+in_ok-pre-inside-in-Between w ↦ rw (w.pre-is, w.locked-is) (search rules)
  | in-Deployment+in_ok-locked-in-Deployment w ↦ rw (w.pre-is, w.locked-is) (search rules)
  | in-Profile+in_ok-profile-in-Profile w ↦ rw (w.pre-is, w.locked-is) (search rules)
  | in-Speed+in-Short+in_ok-read_slots-in-Short w ↦ rw (w.pre-is, w.locked-is) (search rules)
  | in-Speed+in-Long+in_ok-read_slots-in-Long w ↦ rw (w.pre-is, w.locked-is) (search rules)
  | in-Throttle+in-Short-slots+in_ok-read_slots-in-Short-slots w ↦ rw (w.pre-is, w.locked-is) (search rules)
  | in-Throttle+in-Long-slots+in_ok-read_slots-in-Long-slots w ↦ rw (w.pre-is, w.locked-is) (search rules)
  | in-Brake+in-Short-slots-2+in_ok-read_slots-in-Short-slots-2 w ↦ rw (w.pre-is, w.locked-is) (search rules)
  | in-Brake+in-Long-slots-2+in_ok-read_slots-in-Long-slots-2 w ↦ rw (w.pre-is, w.locked-is) (search rules)
  | in-Belt+in_ok-pre-inside-in-Belt w ↦ rw (w.pre-is, w.locked-is) (search rules)
  | in-Lamp+in_ok-pre-inside-in-Lamp w ↦ rw (w.pre-is, w.locked-is) (search rules)
]
