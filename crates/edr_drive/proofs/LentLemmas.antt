-- A desk that was lent, later.
use Rattle.std.proofs.Common.{arith, ◌≡◌, ◌≤◌, ℕ, Option, Some, None, subst}
use Rattle.edr_loops.specs.declared.recorder.Desk.{Desk}
use Rattle.edr_loops.specs.Recorders.{LaterUpTo, DeskStands}
use Rattle.edr_loops.proofs.LaterLemmas.{later-again, later-raised}
use Rattle.edr_drive.specs.Recorders.{LaterIn}

pub lent-again : (t : ℕ) (a b c : Option Desk) → LaterIn t a b → LaterIn t b c → LaterIn t a c
lent-again t None b c h k = tt
lent-again t (Some a) None c h k = absurd h
lent-again t (Some a) (Some b) None h k = absurd k
lent-again t (Some a) (Some b) (Some c) h k = later-again t t t a b c (omega arith) (omega arith) h k

pub lent-raised : (t u : ℕ) (a b : Option Desk) → t ≤ u → LaterIn t a b → LaterIn u a b
lent-raised t u None b low h = tt
lent-raised t u (Some a) None low h = absurd h
lent-raised t u (Some a) (Some b) low h = later-raised t u a b low h

-- it came back
pub lent-back : (t : ℕ) (a b : Desk) (lent : Option Desk) → lent ≡ Some b → LaterIn t (Some a) lent → LaterUpTo t a b
lent-back t a b lent is h = subst (λ (o : Option Desk). LaterIn t (Some a) o) is h

pub lent-stands : (n e : ℕ) (a b : Desk) (lent : Option Desk) → lent ≡ Some b → LaterIn e (Some a) lent → DeskStands n e a → DeskStands n e b
lent-stands n e a b lent is h s = (lent-back e a b lent is h).stands n e (omega arith) s
