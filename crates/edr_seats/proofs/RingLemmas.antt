-- The two ends of a ring, after they have gone on.
use Rattle.std.proofs.Common.{ℕ, ◌∙◌, sym}
use Rattle.edr_seats.specs.declared.rings.Sender.{Sender}
use Rattle.edr_seats.specs.declared.rings.Receiver.{Receiver}
use Rattle.edr_seats.specs.Rings.{AreOfOneRing, SameReceiver, SameSender}

module _ {T : Type 0} {n : ℕ} where
  pub sender-self : (a : Sender T n) → SameSender a a
  sender-self a = search

  pub sender-again : (a b c : Sender T n) → SameSender a b → SameSender b c → SameSender a c
  sender-again a b c h k = ((k.0.0 ∙ h.0.0, k.0.1 ∙ h.0.1, k.0.2 ∙ h.0.2, k.0.3 ∙ h.0.3), k.1 ∙ h.1)

  pub receiver-self : (a : Receiver T n) → SameReceiver a a
  receiver-self a = search

  pub receiver-again : (a b c : Receiver T n) → SameReceiver a b → SameReceiver b c → SameReceiver a c
  receiver-again a b c h k = ((k.0.0 ∙ h.0.0, k.0.1 ∙ h.0.1, k.0.2 ∙ h.0.2, k.0.3 ∙ h.0.3), k.1 ∙ h.1)

  -- the ends that come back are still those of one ring
  pub ring-later : (a b : Sender T n) (i j : Receiver T n) → AreOfOneRing a i → SameSender a b → SameReceiver i j → AreOfOneRing b j
  ring-later a b i j h s t = (t.0.0 ∙ h.0 ∙ sym s.0.0, t.0.1 ∙ h.1 ∙ sym s.0.1, t.0.2 ∙ h.2 ∙ sym s.0.2, t.0.3 ∙ h.3 ∙ sym s.0.3)
