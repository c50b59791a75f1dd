-- Streams whose replies are computed, over an image of two banks: bank 1 is void, bank 2 damaged at 3.
use Rattle.std.proofs.Common.{◌≡◌, refl, ℕ, true, false, Some, None, List, [], ◌∷◌, ◌++◌, length}
use Rattle.edr_image.specs.declared.BankView.TheVariants.{Void, Event, Damaged}
use Rattle.edr_image.specs.declared.Choice.TheVariants.{Keep}
use Rattle.edr_image.specs.Image.{View}
use Rattle.edr_image.specs.PartBytes.{crash_bytes, crash_bytes_by, pre_bytes, pre_bytes_by}
use Rattle.edr_image.proofs.Vectors.{crash, pre_1}
use Rattle.edr_dialog.specs.Replies.{EndsBetween, EndsInside, HasBye, IsRefusedIn, replies, stand_of}

abbrev v : View
v = record {
  store = record { header = record { banks = 2; choice = Keep }; banks = Void ∷ Damaged 3 0 false ∷ [] };
  count = 16_909_060;
}

count : replies v (1 ∷ 0 ∷ 0 ∷ []) ≡ 0x81 ∷ 0 ∷ 4 ∷ 1 ∷ 2 ∷ 3 ∷ 4 ∷ []
unfolding replies
count = refl

list : replies v (2 ∷ 0 ∷ 0 ∷ []) ≡ 0x82 ∷ 0 ∷ 2 ∷ 0 ∷ 3 ∷ []
unfolding replies
list = refl

void : replies v (3 ∷ 0 ∷ 1 ∷ 1 ∷ []) ≡ 0x83 ∷ 0 ∷ 1 ∷ 0 ∷ []
unfolding replies
void = refl

damaged : replies v (3 ∷ 0 ∷ 1 ∷ 2 ∷ []) ≡ 0x83 ∷ 0 ∷ 4 ∷ 3 ∷ 0 ∷ 3 ∷ 0 ∷ []
unfolding replies
damaged = refl

-- no such bank, and the dialog goes on: then a Bye, past which nothing is told
no_bank :
    replies v (3 ∷ 0 ∷ 1 ∷ 0 ∷ 3 ∷ 0 ∷ 1 ∷ 3 ∷ 4 ∷ 0 ∷ 0 ∷ 1 ∷ 0 ∷ 0 ∷ [])
    ≡ 0xff ∷ 0 ∷ 3 ∷ 3 ∷ 0 ∷ 0 ∷ 0xff ∷ 0 ∷ 3 ∷ 3 ∷ 0 ∷ 3 ∷ 0x84 ∷ 0 ∷ 0 ∷ []
unfolding replies
no_bank = refl

no_kind :
    (replies v (0 ∷ 1 ∷ 0 ∷ 0 ∷ []) ≡ 0xff ∷ 0 ∷ 3 ∷ 1 ∷ 0 ∷ 0 ∷ [])
    × (replies v (5 ∷ []) ≡ 0xff ∷ 0 ∷ 3 ∷ 1 ∷ 0 ∷ 5 ∷ [])
    × (replies v (0xff ∷ []) ≡ 0xff ∷ 0 ∷ 3 ∷ 1 ∷ 0 ∷ 0xff ∷ [])
unfolding replies
no_kind = (refl, refl, refl)

-- 0x0101 is the one that a look at its low byte alone takes for the length of a Bank
no_length :
    (replies v (1 ∷ 0 ∷ 1 ∷ 4 ∷ 0 ∷ 0 ∷ []) ≡ 0xff ∷ 0 ∷ 3 ∷ 2 ∷ 0 ∷ 1 ∷ [])
    × (replies v (3 ∷ 0 ∷ 0 ∷ []) ≡ 0xff ∷ 0 ∷ 3 ∷ 2 ∷ 0 ∷ 0 ∷ [])
    × (replies v (3 ∷ 0 ∷ 2 ∷ []) ≡ 0xff ∷ 0 ∷ 3 ∷ 2 ∷ 0 ∷ 2 ∷ [])
    × (replies v (3 ∷ 1 ∷ 1 ∷ []) ≡ 0xff ∷ 0 ∷ 3 ∷ 2 ∷ 1 ∷ 1 ∷ [])
    × (replies v (4 ∷ 0xff ∷ 0xff ∷ []) ≡ 0xff ∷ 0 ∷ 3 ∷ 2 ∷ 0xff ∷ 0xff ∷ [])
unfolding replies
no_length = (refl, refl, refl, refl, refl)

-- a frame that isn't whole
begun : (replies v (1 ∷ []) ≡ []) × (replies v (3 ∷ 0 ∷ []) ≡ []) × (replies v (3 ∷ 0 ∷ 1 ∷ []) ≡ [])
unfolding replies
begun = (refl, refl, refl)

ends :
    EndsBetween [] × EndsBetween (1 ∷ 0 ∷ 0 ∷ []) × EndsInside (1 ∷ 0 ∷ 0 ∷ 3 ∷ []) × HasBye (4 ∷ 0 ∷ 0 ∷ 7 ∷ []) × IsRefusedIn (7 ∷ 4 ∷ 0 ∷ 0 ∷ [])
unfolding stand_of
ends = (refl, refl, (3 ∷ [], (λ e. absurd (some e)), refl), refl, refl) where
  some : ◌≡◌ {A = List ℕ} (3 ∷ []) [] → ⊥
  some e = cc

-- an event that is locked, with a crash part and without one: code, pre part, crash part
abbrev with_event : View
with_event = record v { store = record { header = v.store.header; banks = Event (record { pre = pre_1; locked = true; crash = Some crash }) ∷ Event (record { pre = pre_1; locked = false; crash = None }) ∷ [] } }

event :
    (replies with_event (3 ∷ 0 ∷ 1 ∷ 1 ∷ []) ≡ 0x83 ∷ 3 ∷ 0xf1 ∷ 2 ∷ [] ++ pre_bytes pre_1 ++ crash_bytes crash)
    × (replies with_event (3 ∷ 0 ∷ 1 ∷ 2 ∷ []) ≡ 0x83 ∷ 3 ∷ 0x51 ∷ 1 ∷ [] ++ pre_bytes pre_1)
    × (length (replies with_event (3 ∷ 0 ∷ 1 ∷ 1 ∷ [])) ≡ 1_012)
unfolding replies pre_bytes_by crash_bytes_by
event = (refl, refl, refl)
