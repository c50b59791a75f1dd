-- A byte more of a dialog, and how it ends.
use Rattle.std.proofs.Common.{◌≡◌, ◌∙◌, ◌≢◌, ◌⊎◌, ◌≤◌, ◌+◌, inl, inr, subst, ℕ, List, [], ◌∷◌, ◌++◌, length, take, Option, Some, None, refl, sym, ap, arith, append_assoc, append-nil, length-append}
use Rattle.std.specs.Prelude.{fold}
use Rattle.std.proofs.lemmas.List.Sums.{fold-append}
use Rattle.std.proofs.Math.Seq.{take-append-add}
use Rattle.edr_device.specs.Faults.{Rose}
use Rattle.edr_device.specs.Stream.{Appends}
use Rattle.edr_device.specs.Told.{Told}
use Rattle.edr_device.specs.Transfer.{AppendsPart}
use Rattle.edr_device.specs.declared.stream.Sink as sink
use Rattle.edr_device.specs.declared.stream.Source as stream
use Rattle.edr_device.proofs.TellingLemmas.{told_again}
use Rattle.edr_image.specs.Image.{View}
use Rattle.edr_dialog.specs.Replies.{EndsInside, EndsWell, HasRefused, Hears, IsRefusedIn, SaidBye, DialogStand, next, replies, stand_of}
use Rattle.edr_dialog.specs.Stages.{HasHeard, Talk}
use Rattle.edr_spell.specs.Spell.{largest_trace}
use Rattle.edr_cli.specs.declared.fault.Fault.{Fault}
use Rattle.edr_cli.specs.declared.fault.Fault.TheVariants as fault
use Rattle.edr_cli.specs.declared.status.Status.{Status}
use Rattle.edr_cli.specs.declared.status.Status.TheVariants as status
use Rattle.edr_cli.specs.Dialogs.{IsBroken, IsSaid, StoodFirst, Talked}
use Rattle.edr_cli.specs.Endings.{Gains}
use Rattle.edr_cli.specs.Faults.{fault_line, status_of}
use Rattle.edr_cli.specs.Outside.{Input, IsAtEnd, input}

-- n bytes were taken and fed, and the replies to them put
pub record Replied {S K : Type 0} (s : stream.Ghosts S) (k : sink.Ghosts K) (v : View) (source source' : S) (sink sink' : K) (t : Talk) (n : ℕ) : Type 0 where
  pub bytes : List ℕ
  pub long : length bytes ≡ n
  pub heard : HasHeard v bytes t
  pub taken : Told (StoodFirst bytes) (s.left source) (s.left source')
  pub told : Told (Appends (replies v bytes)) (k.content sink) (k.content sink')
  pub source_later : s.faults source ≤ s.faults source'
  pub sink_later : k.faults sink ≤ k.faults sink'

-- ---- bytes after bytes

pub none_taken : (a : Option (List ℕ)) → Told (StoodFirst []) a a
none_taken None = tt
none_taken (Some x) = refl

pub none_put : (v : View) (a : Option (List ℕ)) → Told (Appends (replies v [])) a a
unfolding replies
none_put v None = tt
none_put v (Some x) = sym (append-nil x)

-- bytes were taken, and then others
pub more_taken : (s t : List ℕ) (x y z : Option (List ℕ)) → Told (StoodFirst s) x y → Told (StoodFirst t) y z → Told (StoodFirst (s ++ t)) x z
more_taken s t x y z = told_again (StoodFirst s) (StoodFirst t) (StoodFirst (s ++ t)) (λ a b c p q. p ∙ ap (λ r. s ++ r) q ∙ sym (append_assoc s t c)) x y z

-- none more were
pub same_taken : (s : List ℕ) (x y z : Option (List ℕ)) → Told (StoodFirst s) x y → Told (StoodFirst []) y z → Told (StoodFirst s) x z
same_taken s x y z = told_again (StoodFirst s) (StoodFirst []) (StoodFirst s) (λ a b c p q. p ∙ ap (λ r. s ++ r) q) x y z

-- bytes were put, and then others, or a part of them
pub more_put : (s t : List ℕ) (x y z : Option (List ℕ)) → Told (Appends s) x y → Told (Appends t) y z → Told (Appends (s ++ t)) x z
more_put s t x y z = told_again (Appends s) (Appends t) (Appends (s ++ t)) (λ a b c p q. q ∙ ap (λ r. r ++ t) p ∙ append_assoc a s t) x y z

pub part_put : (s t : List ℕ) (x y z : Option (List ℕ)) → Told (Appends s) x y → Told (AppendsPart t) y z → Told (AppendsPart (s ++ t)) x z
part_put s t x y z = told_again (Appends s) (AppendsPart t) (AppendsPart (s ++ t))
    (λ a b c p q. (
      length s + q.0,
      omega (arith, q.1, length-append s t),
      q.2 ∙ ap (λ r. r ++ take q.0 t) p ∙ append_assoc a s (take q.0 t) ∙ ap (λ r. a ++ r) (sym (take-append-add s t q.0)),
    ))
    x y z

-- a fault that is counted later
rose_later : (a b c : ℕ) → a ≤ b → Rose b c → Rose a c
rose_later a b c later rose = omega (arith, later, rose)

-- ---- a byte after the stream so far

-- it was taken and fed, and its reply put
pub byte_more : {S K : Type 0} (s : stream.Ghosts S) (k : sink.Ghosts K) (v : View) (source source1 source2 : S) (sink sink1 sink2 : K) (t t' : Talk) (n b m : ℕ) (out : List ℕ)
    → Replied s k v source source1 sink sink1 t n → Told (StoodFirst (b ∷ [])) (s.left source1) (s.left source2) → s.faults source1 ≤ s.faults source2
    → ((bytes : List ℕ) → HasHeard v bytes t → (replies v (bytes ++ b ∷ []) ≡ replies v bytes ++ take m out) × HasHeard v (bytes ++ b ∷ []) t')
    → Told (Appends (take m out)) (k.content sink1) (k.content sink2) → k.faults sink1 ≤ k.faults sink2 → Replied s k v source source2 sink sink2 t' (n + 1)
byte_more s k v source source1 source2 sink sink1 sink2 t t' n b m out r took later fed put put_later =
    let said = fed r.bytes r.heard in
    record {
      bytes = r.bytes ++ b ∷ [];
      long = omega (arith, r.long, length-append r.bytes (b ∷ []));
      heard = said.1;
      taken = more_taken r.bytes (b ∷ []) (s.left source) (s.left source1) (s.left source2) r.taken took;
      told = subst (λ (x : List ℕ). Told (Appends x) (k.content sink) (k.content sink2)) (sym said.0)
          (more_put (replies v r.bytes) (take m out) (k.content sink) (k.content sink1) (k.content sink2) r.told put);
      source_later = omega (arith, r.source_later, later);
      sink_later = omega (arith, r.sink_later, put_later);
    }

-- none was taken
pub none_more : {S K : Type 0} (s : stream.Ghosts S) (k : sink.Ghosts K) (v : View) (source source1 source2 : S) (sink sink1 : K) (t : Talk) (n : ℕ)
    → Replied s k v source source1 sink sink1 t n → Told (StoodFirst []) (s.left source1) (s.left source2) → s.faults source1 ≤ s.faults source2 → Replied s k v source source2 sink sink1 t n
none_more s k v source source1 source2 sink sink1 t n r took later = record {
  bytes = r.bytes;
  long = r.long;
  heard = r.heard;
  taken = same_taken r.bytes (s.left source) (s.left source1) (s.left source2) r.taken took;
  told = r.told;
  source_later = omega (arith, r.source_later, later);
  sink_later = r.sink_later;
}

-- ---- the end of a stream

-- its replies are all that was written
pub talked_whole : {S K : Type 0} (s : stream.Ghosts S) (k : sink.Ghosts K) (v : View) (end : Status) (source source' : S) (sink sink' : K) (t : Talk) (n : ℕ)
    → (r : Replied s k v source source' sink sink' t n) → n ≤ largest_trace + 1 → end ≢ status.WriteFault
    → IsSaid (input s source) (input s source') v r.bytes end (replies v r.bytes) → Talked s k v end source source' sink sink'
talked_whole s k v end source source' sink sink' t n r few fine said = record {
  bytes = r.bytes;
  few = omega (arith, few, r.long);
  taken = r.taken;
  text = replies v r.bytes;
  said = said;
  whole = λ other. r.told;
  part = λ failed. absurd (fine failed);
  source_later = r.source_later;
  sink_later = r.sink_later;
}

said_broken : (i i' : Input) (v : View) (bytes text : List ℕ) (f : Fault) → IsBroken i i' v bytes f text → IsSaid i i' v bytes (status_of f) text
said_broken i i' v bytes text fault.Read is = is
said_broken i i' v bytes text fault.TooLong is = is
said_broken i i' v bytes text other is = absurd is

-- the line of a fault of the source was written after them
pub talked_broken : {S K : Type 0} (s : stream.Ghosts S) (k : sink.Ghosts K) (v : View) (end : Status) (source source' : S) (sink sink1 sink' : K) (t : Talk) (n : ℕ) (f : Fault)
    → (r : Replied s k v source source' sink sink1 t n) → n ≤ largest_trace + 1
    → IsBroken (input s source) (input s source') v r.bytes f (replies v r.bytes ++ fault_line f)
    → Gains k (fault_line f) (status_of f) end sink1 sink' → Talked s k v end source source' sink sink'
talked_broken s k v end source source' sink sink1 sink' t n f r few broken g = record {
  bytes = r.bytes;
  few = omega (arith, few, r.long);
  taken = r.taken;
  text = replies v r.bytes ++ fault_line f;
  said = by_end g.answers;
  whole = λ fine. more_put (replies v r.bytes) (fault_line f) (k.content sink) (k.content sink1) (k.content sink') r.told (g.whole fine).1;
  part = λ failed. (
    part_put (replies v r.bytes) (fault_line f) (k.content sink) (k.content sink1) (k.content sink') r.told (g.part failed).0,
    rose_later (k.faults sink) (k.faults sink1) (k.faults sink') r.sink_later (g.part failed).1,
  );
  source_later = r.source_later;
  sink_later = omega (arith, r.sink_later, g.later);
} where
  said : Status → Type 0
  said x = IsSaid (input s source) (input s source') v r.bytes x (replies v r.bytes ++ fault_line f)

  by_end : (end ≡ status_of f) ⊎ (end ≡ status.WriteFault) → said end
  by_end (inl is) = subst said (sym is) (said_broken (input s source) (input s source') v r.bytes (replies v r.bytes ++ fault_line f) f broken)
  by_end (inr is) = subst said (sym is) (inr (f, broken))

-- a write of the reply at a byte failed
pub talked_part : {S K : Type 0} (s : stream.Ghosts S) (k : sink.Ghosts K) (v : View) (source source1 source2 : S) (sink sink1 sink2 : K) (t t' : Talk) (n b m : ℕ) (out : List ℕ)
    → Replied s k v source source1 sink sink1 t n → n + 1 ≤ largest_trace + 1 → Told (StoodFirst (b ∷ [])) (s.left source1) (s.left source2) → s.faults source1 ≤ s.faults source2
    → ((bytes : List ℕ) → HasHeard v bytes t → (replies v (bytes ++ b ∷ []) ≡ replies v bytes ++ take m out) × HasHeard v (bytes ++ b ∷ []) t')
    → Told (AppendsPart (take m out)) (k.content sink1) (k.content sink2) → Rose (k.faults sink1) (k.faults sink2) → k.faults sink1 ≤ k.faults sink2
    → Talked s k v status.WriteFault source source2 sink sink2
talked_part s k v source source1 source2 sink sink1 sink2 t t' n b m out r few took later fed put rose put_later =
    let said = fed r.bytes r.heard in
    record {
      bytes = r.bytes ++ b ∷ [];
      few = omega (arith, few, r.long, length-append r.bytes (b ∷ []));
      taken = more_taken r.bytes (b ∷ []) (s.left source) (s.left source1) (s.left source2) r.taken took;
      text = replies v (r.bytes ++ b ∷ []);
      said = inl refl;
      whole = λ fine. absurd (fine refl);
      part = λ failed. (
        subst (λ (x : List ℕ). Told (AppendsPart x) (k.content sink) (k.content sink2)) (sym said.0)
            (part_put (replies v r.bytes) (take m out) (k.content sink) (k.content sink1) (k.content sink2) r.told put),
        rose_later (k.faults sink) (k.faults sink1) (k.faults sink2) r.sink_later rose,
      );
      source_later = omega (arith, r.source_later, later);
      sink_later = omega (arith, r.sink_later, put_later);
    }

-- ---- what a stream that ends well doesn't end with

past_refusal : (t : List ℕ) → fold next HasRefused t ≡ HasRefused
past_refusal [] = refl
past_refusal (b ∷ t) = past_refusal t

-- what follows a refusal changes nothing
refused_stays : (s t : List ℕ) → IsRefusedIn s → IsRefusedIn (s ++ t)
unfolding stand_of
refused_stays s t refused = fold-append next (Hears []) s t ∙ ap (λ (x : DialogStand). fold next x t) refused ∙ past_refusal t

not_refused : (s : List ℕ) → IsRefusedIn s → EndsWell s → ⊥
not_refused s refused (inl bye) = go (sym refused ∙ bye) where
  go : HasRefused ≡ SaidBye → ⊥
  go e = cc
not_refused s refused (inr between) = go (sym refused ∙ between) where
  go : HasRefused ≡ Hears [] → ⊥
  go e = cc

not_inside : (s : List ℕ) → EndsInside s → EndsWell s → ⊥
not_inside s inside (inl bye) = go (sym inside.2 ∙ bye) where
  go : Hears inside.0 ≡ SaidBye → ⊥
  go e = cc
not_inside s inside (inr between) = inside.1 (go (sym inside.2 ∙ between)) where
  go : Hears inside.0 ≡ Hears [] → inside.0 ≡ []
  go e = cc

-- where nothing counts a fault, a stream that ends well ends with Ok
pub talk_only_ok : (i i' : Input) (v : View) (s bytes text : List ℕ) (end : Status) → i.left ≡ Some bytes → Told (StoodFirst s) i.left i'.left → length bytes ≤ largest_trace
    → EndsWell bytes → ¬ Rose i.faults i'.faults → end ≢ status.WriteFault → IsSaid i i' v s end text → end ≡ status.Ok
talk_only_ok i i' v s bytes text end left taken few well calm fine said =
    by_left i'.left refl (subst (λ (x : Option (List ℕ)). Told (StoodFirst s) x i'.left) left taken) where
      by_left : (left' : Option (List ℕ)) → i'.left ≡ left' → Told (StoodFirst s) (Some bytes) left' → end ≡ status.Ok
      by_left None is t = absurd t
      by_left (Some rest) is t = by_end end fine said where
        by_end : (x : Status) → x ≢ status.WriteFault → IsSaid i i' v s x text → x ≡ status.Ok
        by_end status.Ok other said = refl
        by_end status.Dialog other said = absurd (by_why said.0) where
          by_why : (IsRefusedIn s ⊎ (EndsInside s × IsAtEnd i'.left)) → ⊥
          by_why (inl refused) = not_refused bytes (subst IsRefusedIn (sym t) (refused_stays s rest refused)) well
          by_why (inr inside) =
              let none : rest ≡ [] = subst IsAtEnd is inside.1 in
              not_inside s inside.0 (subst EndsWell (t ∙ ap (λ r. s ++ r) none ∙ append-nil s) well)
        by_end status.ReadFault other said = absurd (calm said.0)
        by_end status.TooLong other said = absurd (omega (arith, few, said.0, ap length t, length-append s rest))
        by_end status.WriteFault other said = absurd (other refl)
        by_end end other said = absurd said
