-- The samples of one sensor as they are kept: the oldest stands beside the ring of the others.
use Rattle.std.specs.Prelude.{◌≡◌, ◌+◌, ◌≤◌, Option, Some, None, List, [], ◌∷◌, length}
use Rattle.edr_items.specs.declared.Item.{Item}
use Rattle.edr_merge.specs.declared.samples.TheConstants.{ROOM}
use Rattle.edr_merge.specs.declared.samples.Samples.TheInside.{Inside}

-- the oldest sample and the others after it
abbrev pub with_oldest : Option Item → List Item → List Item
with_oldest None xs = []
with_oldest (Some x) xs = x ∷ xs

abbrev pub samples_of : Inside → List Item
samples_of s = with_oldest s.oldest s.others.items

-- there is room for the oldest and the others, and others wait only after an oldest
pub record IsInOrder (s : Inside) : Type 0 where
  pub room : s.others.capacity + 1 ≡ ROOM
  pub within : length s.others.items + 1 ≤ ROOM
  pub behind : s.oldest ≡ None → s.others.items ≡ []
