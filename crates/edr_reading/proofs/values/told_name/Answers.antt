use Rattle.std.proofs.Common.{rules, arith, ◌≡◌, ◌∙◌, sym, ap, ℕ, ◌+◌, ◌<◌, ◌^◌, List, Option, Some, None}
use Rattle.std.specs.{List.slice_index_or, Option.option_map_or}
use Rattle.edr_image.specs.declared.Kind.{Kind}
use Rattle.edr_report.specs.Words.{ack_words}
use Rattle.edr_reading.specs.{declared.values.ToldName.ToldName, Reading.{IsToldName, name_words, IsTick}}
use Rattle.edr_reading.specs.declared.values.ToldName.TheVariants as name
use Rattle.edr_reading.proofs.ValueLemmas.{words-apart}
use Rattle.edr_reading.proofs.values.told_name.Goals as goal

no-other : (cycles : ℕ) (bytes : List ℕ) (kind : Kind) (tick : ℕ) → cycles + 1 < 2 ^ 64 → bytes ≡ ack_words cycles kind tick → ((k : Kind) (t : ℕ) → IsTick t → bytes ≡ ack_words cycles k t → ◌≡◌ {A = Option (Kind × ℕ)} (Some (kind, tick)) (Some (k, t)))
    → (x : ToldName) → IsToldName x → bytes ≡ name_words cycles x → Some (name.Ack kind tick) ≡ Some x
no-other cycles bytes kind tick small read whole name.Cycle h e = absurd (words-apart cycles (cycles + 1) kind tick small (sym e ∙ read))
no-other cycles bytes kind tick small read whole (name.Ack k t) h e = let same : ◌≡◌ {A = Option (Kind × ℕ)} (Some (kind, tick)) (Some (k, t)) = whole k t h e in let p = ap (λ (o : Option (Kind × ℕ)). option_map_or (λ (q : Kind × ℕ). Some (name.Ack q.0 q.1)) o None) same in p
no-other cycles bytes kind tick small read whole (name.Bank b) h e = let first : 99 ≡ 98 = ap (λ (l : List ℕ). slice_index_or l 0 0) (sym read ∙ e) in absurd (omega (arith, first))
no-other cycles bytes kind tick small read whole name.Count h e = let first : 99 ≡ 105 = ap (λ (l : List ℕ). slice_index_or l 0 0) (sym read ∙ e) in absurd (omega (arith, first))

pub returns-in-Some-ack : goal.returns-in-Some-ack
returns-in-Some-ack c = record { read = search rules; whole = no-other c.args.cycles c.args.name.now c.in-Some-ack.kind c.in-Some-ack.tick (omega (arith, c.requires)) c.in-Some-ack.ensures.read.0 c.in-Some-ack.ensures.whole }
