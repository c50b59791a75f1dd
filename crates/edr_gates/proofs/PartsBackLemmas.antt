-- What is put of a part reads back, where it is put into a bank.
use Rattle.std.proofs.Common.{◌≡◌, ◌++◌, ℕ, List, replicate, refl, sym, subst}
use Rattle.edr_record.specs.Bounds.{IsCrash, IsPre, slots_in}
use Rattle.edr_record.specs.Parts.{CrashPart, PrePart}
use Rattle.edr_image.specs.declared.forms.TheConstants.{VERSION_2}
use Rattle.edr_codec.proofs.CrashLaws.{crash-read_back}
use Rattle.edr_codec.proofs.PreLaws.{pre-read_back}
use Rattle.edr_codec.proofs.VersionLemmas.{version_2-profile}
use Rattle.edr_image.specs.PartBytes.{crash_bytes, pre_bytes}
use Rattle.edr_gates.proofs.BankStepLemmas.{IsEnding, IsFilling, filling_is}

pub filling_back : (piece : List ℕ) (pre : PrePart) → piece ≡ replicate 15 0 ++ pre_bytes pre → IsPre pre → IsFilling piece pre
filling_back piece pre same is =
    let back = pre-read_back VERSION_2.pre (slots_in pre.profile) pre is (version_2-profile pre.profile) in
    subst (λ (xs : List ℕ). IsFilling xs pre) (sym same) (filling_is (pre_bytes pre) pre refl back.0 (record { whole = back.1; same = back.2 }))

pub ending_back : (piece : List ℕ) (crash : CrashPart) → piece ≡ crash_bytes crash → IsCrash crash → IsEnding piece crash
ending_back piece crash same is =
    let back = crash-read_back VERSION_2.crash crash is in
    subst (λ (xs : List ℕ). IsEnding xs crash) (sym same) (record { written = refl; long = back.0; part = record { whole = back.1; same = back.2 } })
