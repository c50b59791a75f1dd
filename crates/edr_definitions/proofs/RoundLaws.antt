-- Whole km/h are rounded half away from zero.
use Rattle.std.proofs.Common.{arith, refl, ap, ◌≡◌, ℕ, zero, suc, ◌+◌, ◌*◌, ◌/◌, ◌<◌, ◌≤◌, ℤ, pos, negsuc}
use Rattle.std.specs.Prelude.{neg_ℤ}
use Rattle.edr_definitions.specs.declared.limits.TheConstants.{STEPS_OF_KMH}
use Rattle.edr_definitions.specs.Parts.{kmh_of}

pos_injective : (a b : ℕ) → pos a ≡ pos b → a ≡ b
pos_injective a b h = cc

pub kmh_of-between : (n k : ℕ) → kmh_of (pos n) ≡ pos k → (STEPS_OF_KMH * k ≤ n + STEPS_OF_KMH / 2) × (n < STEPS_OF_KMH * k + STEPS_OF_KMH / 2)
kmh_of-between n k h = let e = pos_injective ((n + STEPS_OF_KMH / 2) / STEPS_OF_KMH) k h in (omega (arith, e), omega (arith, e))

pub between-kmh_of : (n k : ℕ) → STEPS_OF_KMH * k ≤ n + STEPS_OF_KMH / 2 → n < STEPS_OF_KMH * k + STEPS_OF_KMH / 2 → kmh_of (pos n) ≡ pos k
between-kmh_of n k low high = let e : (n + STEPS_OF_KMH / 2) / STEPS_OF_KMH ≡ k = omega (arith, low, high) in ap pos e

neg_twice : (q : ℕ) → pos q ≡ neg_ℤ (neg_ℤ (pos q))
neg_twice zero = refl
neg_twice (suc q) = refl

-- the other side of zero is the mirror image
pub kmh_of-mirrored : (z : ℤ) → kmh_of (neg_ℤ z) ≡ neg_ℤ (kmh_of z)
kmh_of-mirrored (pos zero) = refl
kmh_of-mirrored (pos (suc n)) = refl
kmh_of-mirrored (negsuc n) = neg_twice ((suc n + STEPS_OF_KMH / 2) / STEPS_OF_KMH)
