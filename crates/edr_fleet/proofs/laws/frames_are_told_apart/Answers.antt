use Rattle.edr_fleet.proofs.FrameLemmas.{never_both, one_list, one_offset}
use Rattle.edr_fleet.proofs.laws.frames_are_told_apart.Goals as goal

pub returns-clause-one_list : goal.returns-clause-one_list
returns-clause-one_list c = one_list

pub returns-clause-one_offset : goal.returns-clause-one_offset
returns-clause-one_offset c = one_offset

pub returns-clause-never_both : goal.returns-clause-never_both
returns-clause-never_both c = never_both
