-- What a contract sees of a buffered inlet.
use Rattle.std.specs.Prelude.{◌≡◌, ◌≢◌, ◌-◌, ◌<◌, ◌≤◌, ◌⊎◌, ◌++◌, ◌∷◌, [], ℕ, List, Option, MatchOption, get_or}
use Rattle.edr_items.specs.declared.Item.{Item}
use Rattle.edr_definitions.specs.Schedule.{BeginsWith}
use Rattle.edr_seats.specs.Rings.{SameReceiver, items_known, items_taken}
use Rattle.edr_loops.specs.Slices.{but_last}
use Rattle.edr_loops.specs.declared.buffered_inlet.BufferedInlet.{BufferedInlet}

-- the items that were taken, oldest first: what came out of the ring, but for what lies in the buffer
abbrev pub taken_of : BufferedInlet → List Item
taken_of t = but_last (t.end - t.next) (items_taken t.inlet)

-- an item up to that moment was taken, by which what was taken has grown; or none was
abbrev pub TakesUpTo : {A : Type 0} → ℕ → (Item → A → A) → Option Item → A → A → Type 0
TakesUpTo upto grown taken old new = MatchOption taken (new ≡ old) (λ item. (new ≡ grown item old) × (item.moment ≤ upto))

-- the items with one more at their end
abbrev pub with_last : Item → List Item → List Item
with_last item items = items ++ item ∷ []

-- the inlet knows of no item beside those that were taken
abbrev pub KnowsNone : BufferedInlet → Type 0
KnowsNone t = (taken_of t ≡ items_taken t.inlet) × (items_known t.inlet ≡ [])

-- the item comes out of the ring after those that were taken
abbrev pub ComesNext : Item → BufferedInlet → Type 0
ComesNext x t = BeginsWith (items_taken t.inlet) (with_last x (taken_of t))

-- the inlet knows of none, or the next one is such
abbrev pub KnowsNoneBut : (Item → Type 0) → BufferedInlet → Type 0
KnowsNoneBut Such t = KnowsNone t ⊎ ((x : Item) × ComesNext x t × Such x)

-- no item up to that moment is known
abbrev pub KnowsNoneUpTo : ℕ → BufferedInlet → Type 0
KnowsNoneUpTo upto t = KnowsNoneBut (λ x. upto < x.moment) t

-- that item is not known to come next
abbrev pub IsNotNext : Item → BufferedInlet → Type 0
IsNotNext item t = KnowsNoneBut (λ x. x ≢ item) t

-- the item comes next, and lies in the buffer
abbrev pub IsNext : Item → BufferedInlet → Type 0
IsNext x t = (t.next < t.end) × (get_or t.items t.next x ≡ x)

-- the inlet of the same ring
abbrev pub SameBuffered : BufferedInlet → BufferedInlet → Type 0
SameBuffered a b = SameReceiver a.inlet b.inlet
