-- What a contract sees of a ring of items T with room for n of them: of the end that sends, and of the end that receives.
use Rattle.std.specs.Prelude.{◌≡◌, ◌+◌, ◌-◌, ◌≤◌, ℕ, List, [], ◌∷◌, ◌++◌, length}
use mathlib.Core.List.{IsPrefix}
use Rattle.rtrb.specs.Ring.{IsPair, SameConsumer, SameProducer, known_free, known_items, received, sent}
use Rattle.edr_seats.specs.declared.rings.Sender.{Sender}
use Rattle.edr_seats.specs.declared.rings.Receiver.{Receiver}

-- the items that were sent, oldest first
abbrev pub items_sent : {T : Type 0} {n : ℕ} → Sender T n → List T
items_sent s = sent s.ring

-- how many of the items sent the sender knows taken
abbrev pub known_taken : {T : Type 0} {n : ℕ} → Sender T n → ℕ
known_taken {T} {n} s = length (items_sent s) + known_free s.ring - n

-- the items that were taken, oldest first
abbrev pub items_taken : {T : Type 0} {n : ℕ} → Receiver T n → List T
items_taken r = received r.ring

-- the items that the receiver knows of and has not taken, oldest first: the next takes give them
abbrev pub items_known : {T : Type 0} {n : ℕ} → Receiver T n → List T
items_known r = known_items r.ring

-- as many items as there is room for were sent past the last that the sender knows taken
abbrev pub KnowsNoRoom : {T : Type 0} {n : ℕ} → Sender T n → Type 0
KnowsNoRoom {T} {n} s = length (items_sent s) ≡ known_taken s + n

-- ---- the same ring

-- the end that sends of the same ring
abbrev pub SameSender : {T : Type 0} {n : ℕ} → Sender T n → Sender T n → Type 0
SameSender a b = SameProducer a.ring b.ring

-- the end that receives of the same ring
abbrev pub SameReceiver : {T : Type 0} {n : ℕ} → Receiver T n → Receiver T n → Type 0
SameReceiver a b = SameConsumer a.ring b.ring

-- the two ends of one ring
abbrev pub AreOfOneRing : {T : Type 0} {n : ℕ} → Sender T n → Receiver T n → Type 0
AreOfOneRing s r = IsPair s.ring r.ring

-- nothing was sent or taken, and nothing is known of
pub record IsFreshRing {T : Type 0} {n : ℕ} (s : Sender T n) (r : Receiver T n) : Type 0 where
  pub pair : AreOfOneRing s r
  pub sent : items_sent s ≡ []
  pub room : known_taken s ≡ 0
  pub taken : items_taken r ≡ []
  pub known : items_known r ≡ []

-- ---- a take

-- that item was taken
abbrev pub HasTakenItem : {T : Type 0} {n : ℕ} → Receiver T n → Receiver T n → T → Type 0
HasTakenItem a b x = items_taken b ≡ items_taken a ++ x ∷ []

-- it came before all that is known of now, as far as that was known of
abbrev pub HadBefore : {T : Type 0} {n : ℕ} → Receiver T n → Receiver T n → T → Type 0
HadBefore a b x = IsPrefix (items_known a) (x ∷ items_known b)

-- none was known of, and none was taken
abbrev pub HadNone : {T : Type 0} {n : ℕ} → Receiver T n → Receiver T n → Type 0
HadNone a b = (items_taken b ≡ items_taken a) × (items_known a ≡ []) × (items_known b ≡ [])

-- ---- both ends

-- both ends have looked at each other: so many items were sent and not taken, and these the next takes give. The sender knows
-- then of each item that was taken
pub record HaveMet {T : Type 0} {n : ℕ} (s s' : Sender T n) (r r' : Receiver T n) (left : ℕ) : Type 0 where
  pub sender : SameSender s s'
  pub receiver : SameReceiver r r'
  pub sent : items_sent s' ≡ items_sent s
  pub taken : items_taken r' ≡ items_taken r
  pub count : left ≡ length (items_known r')
  pub within : left ≤ n
  pub all : items_taken r' ++ items_known r' ≡ items_sent s'
  pub known : IsPrefix (items_known r) (items_known r')
  pub later : known_taken s ≤ known_taken s'
  pub taken_known : length (items_taken r') ≤ known_taken s'
