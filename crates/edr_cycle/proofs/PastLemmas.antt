-- What stands past the image is in no bank.
use Rattle.std.proofs.Common.{◌≡◌, ◌∙◌, ◌≤◌, ◌<◌, ◌-◌, refl, sym, ap, subst, arith, ℕ, Some, List, [], ◌∷◌, length, slice_index}
use Rattle.std.specs.Prelude.{false}
use Rattle.std.proofs.lemmas.Bool.Decides.{nat_tests}
use Rattle.std.proofs.lemmas.List.{length-set}
use Rattle.std.proofs.lemmas.List.FromFn.{length-map-range_with_len}
use Rattle.std.proofs.lemmas.Option.{slice_get_within}
use Rattle.edr_device.specs.Device.{is_in}
use Rattle.edr_image.specs.declared.BankView.{BankView}
use Rattle.edr_image.specs.declared.BankView.TheVariants.{Void, Event}
use Rattle.edr_image.specs.declared.Header.{Header}
use Rattle.edr_image.specs.Image.{View, image_size, place_of, view_of}
use Rattle.edr_image.specs.Steps.{BankStep, Erase, Fill, Lock, Done, banks_after}
use Rattle.edr_gates.specs.Taken.{HasDone, BankHolds, IsAside, MayTake, MayTakeAll, bank_of}
use Rattle.edr_gates.proofs.ViewLemmas.{seen}
use Rattle.edr_cycle.specs.Past.{KeepsPast}

pub past_same : (h : Header) (bytes image : List ℕ) → image ≡ bytes → KeepsPast h bytes image
past_same h bytes image same = record { size = ap length same; past = λ i from below. ap (λ (x : List ℕ). slice_index x i) same }

pub past_self : (h : Header) (bytes : List ℕ) → KeepsPast h bytes bytes
past_self h bytes = past_same h bytes bytes refl

pub past_again : (h : Header) (bytes mid image : List ℕ) → KeepsPast h bytes mid → KeepsPast h mid image → KeepsPast h bytes image
past_again h bytes mid image a b = record {
  size = b.size ∙ a.size;
  past = λ i from below. b.past i from (subst (λ n. i < n) (sym a.size) below) ∙ a.past i from below;
}

-- ---- the banks end where the image does

held_within : (banks : List BankView) (m : ℕ) (view : BankView) → BankHolds banks m view → (1 ≤ m) × (m ≤ length banks)
held_within banks m view h = let below = slice_get_within banks (m - 1) view h.1 in let from = h.0 in (from, omega (arith, below, from))

bank_within : (banks : List BankView) (s : BankStep) → MayTake banks s → (1 ≤ bank_of s) × (bank_of s ≤ length banks)
bank_within banks (Erase m) may = held_within banks m (Event may.0) may.1
bank_within banks (Fill m pre) may = held_within banks m Void may
bank_within banks (Lock m) may = held_within banks m (Event may.0) may.1
bank_within banks (Done m crash) may = held_within banks m (Event may.0) may.1

as_many : (banks : List BankView) (s : BankStep) → length (banks_after banks s) ≡ length banks
as_many banks (Erase m) = length-set banks (m - 1) _
as_many banks (Fill m pre) = length-set banks (m - 1) _
as_many banks (Lock m) = length-set banks (m - 1) _
as_many banks (Done m crash) = length-set banks (m - 1) _

past_bank : (n m i : ℕ) → 1 ≤ m → m ≤ n → image_size n ≤ i → is_in (place_of m) 1024 i ≡ false
past_bank n m i from to past = grind (arith, nat_tests)

past_banks : (steps : List BankStep) (banks : List BankView) (i : ℕ) → MayTakeAll banks steps → image_size (length banks) ≤ i → IsAside steps i
past_banks [] banks i may past = tt
past_banks (s ∷ steps) banks i may past =
    let within = bank_within banks s may.0 in (
      past_bank (length banks) (bank_of s) i within.0 within.1 past,
      past_banks steps (banks_after banks s) i may.1 (subst (λ n. image_size n ≤ i) (sym (as_many banks s)) past),
    )

all_banks : (bytes : List ℕ) (v : View) → view_of bytes ≡ Some v → length v.store.banks ≡ v.store.header.banks
all_banks bytes v is = let same = (seen bytes v is).same in rw same (length-map-range_with_len _ 1 (slice_index bytes 10))

-- so steps that are taken in the banks leave what stands past it
pub done_past : (steps done : List BankStep) (bytes image : List ℕ) (v : View) → view_of bytes ≡ Some v → MayTakeAll v.store.banks steps → HasDone steps done bytes v image → KeepsPast v.store.header bytes image
done_past steps done bytes image v is may has = record {
  size = has.size;
  past = λ i from below. has.same i below (past_banks steps v.store.banks i may (subst (λ n. image_size n ≤ i) (sym (all_banks bytes v is)) from));
}
